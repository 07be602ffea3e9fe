-- The types that stand in inputs, level by level.
use Rattle.std.proofs.Common.{◌≡◌, ◌⊎◌, ℕ, suc, ◌<◌, ◌≤◌, ◌+◌, List, [], Contains, map, refl, sym, subst}
use Rattle.std.proofs.Common.{inl, inr, arith}
use Rattle.std.specs.Prelude.{◌↔◌}
use Rattle.cf_class.specs.declared.class_file.ClassFile.{ClassFile}
use Rattle.jv_base.specs.Descriptor.{ElementType, FieldType}
use Rattle.jv_base.specs.declared.method.MethodId.{MethodId}
use Rattle.std.proofs.lemmas.List.Elements.{Contains-append_cases}
use Rattle.jv_list.proofs.MemberLemmas.{none_member}
use Rattle.hi_tree.specs.Inputs.{class_type, StandsAt, receiver, parameter, element, field}
use Rattle.hi_inputs.specs.declared.flat.FlatType.{FlatType}
use Rattle.hi_inputs.specs.Calls.Flat.{field_of_flat, AreTypes}
use Rattle.hi_inputs.specs.Calls.Sets.{Takes}
use Rattle.hi_inputs.specs.Types.{StandsWithin, AreStanding}
use Rattle.hi_inputs.specs.Calls.First.{IsFirst}
use Rattle.hi_inputs.specs.Calls.Below.{IsBelow, IsBelowElement}
use Rattle.hi_inputs.proofs.SetLemmas.{takes_seen}
use Rattle.hi_inputs.proofs.LevelLemmas.{IsNextLevel, IsLevel}

module _ (classes : List ClassFile) (entry : MethodId) (depth : ℕ) where
  -- nothing stands at no depth
  positive : {at : ℕ} {t : FieldType} → StandsAt classes entry depth at t → 0 < at
  positive (receiver c m read declared instance) = omega arith
  positive (parameter m t form text there) = omega arith
  positive (element d array dimensions within many stands) = omega arith
  positive (field d name c t within made has stands) = omega arith

  pub none_stands : depth ≡ 0 → AreStanding classes entry depth []
  none_stands e = λ t. (
    λ h. absurd (none_member t h),
    λ s. absurd (omega (arith, e, s.1, positive s.2)),
  )

  first_of : (at : ℕ) (t : FieldType) → at ≤ 1 → StandsAt classes entry depth at t → IsFirst classes entry t
  first_of at t within (receiver c m read declared instance) =
      inl (record { class = c; method = m; read = read; declared = declared; instance = instance; type = refl })
  first_of at t within (parameter m u form text there) =
      inr (record { method = m; form = form; text = text; there = there })
  first_of at t within (element d array dimensions most many stands) =
      absurd (omega (arith, within, positive stands))
  first_of at t within (field d name c u most made has stands) = absurd (omega (arith, within, positive stands))

  -- the types of the arguments are those of the first level
  pub first_level : (t : FieldType) → IsFirst classes entry t ↔ StandsWithin classes entry depth 1 t
  first_level t = (
    λ h. elim h [
      | inl r ↦ (
        1,
        omega arith,
        subst (StandsAt classes entry depth 1) (sym r.type)
            (receiver r.class r.method r.read r.declared r.instance),
      )
      | inr p ↦ (1, omega arith, parameter p.method t p.form p.text p.there)
    ],
    λ s. first_of s.0 t s.1 s.2,
  )

  -- what was taken in first
  pub first_taken : (old items new : List FlatType) → old ≡ [] → AreTypes (IsFirst classes entry) items
      → Takes old items new
      → IsLevel (IsBelow classes) (StandsWithin classes entry depth) 1 0 (map field_of_flat new)
  first_taken old items new none are t = record {
    members = λ x. (
      λ h. elim (Contains-append_cases (map field_of_flat old) seen.more x (subst (λ l. Contains l x) seen.grows h)) [
        | inl o ↦ absurd (none_member x (subst (λ l. Contains (map field_of_flat l) x) none o))
        | inr m ↦ (first_level x).0 ((are x).0 (seen.among x m))
      ],
      λ s. seen.covers x ((are x).1 ((first_level x).1 s)),
    );
    closed = λ at p x below is n. absurd (omega (arith, below));
  }
    where
      seen : Takes (map field_of_flat old) (map field_of_flat items) (map field_of_flat new)
      seen = takes_seen field_of_flat old items new t

  module _ (level : ℕ) (low : 1 ≤ level) (high : level ≤ depth) where
    split_at : (at : ℕ) (t : FieldType) → at ≤ level + 1 → StandsAt classes entry depth at t
        → StandsWithin classes entry depth level t
        ⊎ ((u : FieldType) × StandsWithin classes entry depth level u × IsBelow classes u t)
    split_at at t within (receiver c m read declared instance) =
        inl (1, low, receiver c m read declared instance)
    split_at at t within (parameter m u form text there) = inl (1, low, parameter m u form text there)
    split_at at t within (element d array dimensions most many stands) =
        inr (array, (d, omega (arith, within), stands), inl (many, refl))
    split_at at t within (field d name c u most made has stands) =
        inr (class_type name, (d, omega (arith, within), stands), inr (refl, (name, refl, (c, made), has)))

    join_array : (d : ℕ) (u t : FieldType) → d ≤ level → StandsAt classes entry depth d u
        → u.dimensions ≡ suc t.dimensions → u.element ≡ t.element → StandsAt classes entry depth (d + 1) t
    join_array d u t within stands many same =
        let at : ElementType → Type 0 =
        λ e. StandsAt classes entry depth (d + 1) (record { dimensions = t.dimensions; element = e }) in
        subst at same (element d u t.dimensions (omega (arith, within, high)) many stands)

    join_object : (d : ℕ) (u t : FieldType) → d ≤ level → StandsAt classes entry depth d u → u.dimensions ≡ 0
        → IsBelowElement classes u.element t → StandsAt classes entry depth (d + 1) t
    join_object d u t within stands none b =
        let same : u ≡ class_type b.0 = λ i. record { dimensions = none i; element = b.1 i } in
        field d b.0 b.2.0 t (omega (arith, within, high)) b.2.1 b.3 (subst (StandsAt classes entry depth d) same stands)

    join : (t : FieldType) → StandsWithin classes entry depth level t
        ⊎ ((u : FieldType) × StandsWithin classes entry depth level u × IsBelow classes u t)
        → StandsWithin classes entry depth (level + 1) t
    join t (inl s) = (s.0, omega (arith, s.1), s.2)
    join t (inr (u, s, inl b)) = (s.0 + 1, omega (arith, s.1), join_array s.0 u t s.1 s.2 b.0 b.1)
    join t (inr (u, s, inr b)) = (s.0 + 1, omega (arith, s.1), join_object s.0 u t s.1 s.2 b.0 b.1)

    pub next_level : IsNextLevel (IsBelow classes) (StandsWithin classes entry depth) level
    next_level t = (λ s. split_at s.0 t s.1 s.2, join t)

  -- the level of the depth is all
  pub all_stand : (level from : ℕ) (types : List FieldType) → level ≡ depth
      → IsLevel (IsBelow classes) (StandsWithin classes entry depth) level from types
      → AreStanding classes entry depth types
  all_stand level from types same l =
      subst (λ n. (t : FieldType) → Contains types t ↔ StandsWithin classes entry depth n t) same l.members
