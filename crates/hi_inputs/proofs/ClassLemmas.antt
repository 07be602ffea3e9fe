-- The classes of the objects that inputs can hold.
use Rattle.std.proofs.Common.{◌≡◌, ℕ, ◌<◌, ◌≤◌, ◌+◌, Bool, true, false, List, [], ◌∷◌, ◌++◌, length, take, map}
use Rattle.std.proofs.Common.{get_or, Contains, refl, sym, ap, subst, ◌∙◌, inl, inr, true≢false, IsPermutation}
use Rattle.std.specs.List.{IsDistinct}
use Rattle.std.proofs.lemmas.List.{map-append, take_all}
use Rattle.std.proofs.lemmas.List.Elements.{Contains-append_left, Contains-append_right, Contains-append_cases}
use Rattle.std.proofs.lemmas.List.Sorted.{Contains-permutation, IsPermutation-sym}
use Rattle.std.proofs.lemmas.Map.Keys.{IsDistinct-IsPermutation}
use Rattle.std.proofs.lemmas.Slice.Eq.{bytes_eq-Decides}
use Rattle.cf_class.specs.declared.class_file.ClassFile.{ClassFile}
use Rattle.jv_base.specs.Descriptor.{FieldType}
use Rattle.jv_base.specs.contracts.name.NamePartialEq.TheImpl as name_eq
use Rattle.jv_base.specs.declared.method.MethodId.{MethodId}
use Rattle.jv_list.proofs.PlaceLemmas.{take_with}
use Rattle.jv_list.proofs.MemberLemmas.{none_member, one_member, first_member}
use Rattle.hi_tree.specs.Inputs.{class_type}
use Rattle.hi_inputs.specs.declared.flat.FlatType.{FlatType}
use Rattle.hi_inputs.specs.Types.{AreOnce, AreStanding, AreInputClasses}
use Rattle.hi_inputs.specs.Calls.Flat.{field_of_flat}
use Rattle.hi_inputs.specs.Calls.Made.{CanBeMade, AddsMade, AreMadeAmong}
use Rattle.hi_inputs.specs.Calls.Sets.{Takes}
use Rattle.hi_inputs.proofs.BelowLemmas.{same_class}
use Rattle.hi_inputs.proofs.OnceLemmas.{once}
use Rattle.hi_inputs.proofs.SameLemmas.{same_names}

module _ (classes : List ClassFile) where
  -- a type that is no class of which objects can be made
  pub made_none : (u : FieldType) (old : List (List ℕ)) → ((name : List ℕ) → u ≡ class_type name
      → CanBeMade classes name → ⊥) → AddsMade classes u old old
  made_none u old none name = (λ h. inl h, λ h. elim h [ inl o ↦ o | inr m ↦ absurd (none name m.0 m.1) ])

  pub made_one : (u : FieldType) (old new : List (List ℕ)) (class : List ℕ) → u ≡ class_type class
      → CanBeMade classes class → Takes old (class ∷ []) new → AddsMade classes u old new
  made_one u old new class is made t name = (
    λ h. elim (Contains-append_cases old t.more name (subst (λ l. Contains l name) t.grows h)) [
      | inl o ↦ inl o
      | inr m ↦
          let same : class ≡ name = one_member class name (t.among name m) in
          inr (is ∙ ap class_type same, subst (CanBeMade classes) same made)
    ],
    λ h. elim h [
      | inl o ↦ subst (λ l. Contains l name) (sym t.grows) (Contains-append_left old t.more name o)
      | inr m ↦
          let same : class ≡ name = same_class classes class name (ap (λ (v : FieldType). v.element) (sym is ∙ m.0)) in
          t.covers name (subst (Contains (class ∷ [])) same (first_member class []))
    ],
  )

  pub among_none : (names : List (List ℕ)) → names ≡ [] → AreMadeAmong classes [] names
  among_none names none name = (
    λ h. absurd (none_member name (subst (λ l. Contains l name) none h)),
    λ m. absurd (none_member (class_type name) m.0),
  )

  among_more : (types : List FieldType) (u : FieldType) (old new : List (List ℕ)) → AreMadeAmong classes types old
      → AddsMade classes u old new → AreMadeAmong classes (types ++ u ∷ []) new
  among_more types u old new are adds name = (
    λ h. elim ((adds name).0 h) [
      | inl o ↦
          let m = (are name).0 o in
          (Contains-append_left types (u ∷ []) (class_type name) m.0, m.1)
      | inr m ↦ (
        Contains-append_right types (u ∷ []) (class_type name)
            (subst (Contains (u ∷ [])) m.0 (first_member u [])),
        m.1,
      )
    ],
    λ m. elim (Contains-append_cases types (u ∷ []) (class_type name) m.0) [
      | inl h ↦ (adds name).1 (inl ((are name).1 (h, m.1)))
      | inr h ↦ (adds name).1 (inr (one_member u (class_type name) h, m.1))
    ],
  )

  pub among_step : (types : List FlatType) (i : ℕ) (ty : FlatType) (old new : List (List ℕ)) → i < length types
      → ty ≡ get_or types i ty → AreMadeAmong classes (map field_of_flat (take i types)) old
      → AddsMade classes (field_of_flat ty) old new → AreMadeAmong classes (map field_of_flat (take (i + 1) types)) new
  among_step types i ty old new below at are adds =
      let seen : map field_of_flat (take (i + 1) types) ≡ map field_of_flat (take i types) ++ field_of_flat ty ∷ [] =
      ap (map field_of_flat) (take_with types i ty below at) ∙ map-append field_of_flat (take i types) (ty ∷ []) in
      subst (λ l. AreMadeAmong classes l new) (sym seen)
      (among_more (map field_of_flat (take i types)) (field_of_flat ty) old new are adds)

  pub among_end : (types : List FlatType) (i : ℕ) (names : List (List ℕ)) → length types ≤ i
      → AreMadeAmong classes (map field_of_flat (take i types)) names
      → AreMadeAmong classes (map field_of_flat types) names
  among_end types i names past are =
      subst (λ l. AreMadeAmong classes (map field_of_flat l) names) (take_all i types past) are

  -- the classes among the types that stand in inputs are those of the objects
  pub input_classes : (entry : MethodId) (depth : ℕ) (types : List FieldType) (names sorted : List (List ℕ))
      → AreStanding classes entry depth types → AreMadeAmong classes types names → IsPermutation names sorted
      → AreInputClasses classes entry depth sorted
  input_classes entry depth types names sorted stand are p name = (
    λ h.
        let m = (are name).0 (Contains-permutation sorted names name (IsPermutation-sym names sorted p) h) in
        let s = (stand (class_type name)).0 m.0 in
        record { file = m.1.0; made = m.1.1; at = s.0; within = s.1; stands = s.2 },
    λ i.
        Contains-permutation names sorted name p
        ((are name).1 ((stand (class_type name)).1 (i.at, i.within, i.stands), (i.file, i.made))),
  )

-- a list in another order, by what both are
pub moved : (a names b sorted : List (List ℕ)) → a ≡ names → sorted ≡ b → IsPermutation a b
    → IsPermutation names sorted
moved a names b sorted e f p =
    subst (λ l. IsPermutation l sorted) e (subst (IsPermutation a) (sym f) p)

-- names that are equal either way
alike_names : (x : List ℕ) → (name_eq.ghosts).eq x x ≡ true
alike_names x = (bytes_eq-Decides x x).1 refl

either_way : (x y : List ℕ) → (name_eq.ghosts).eq x y ≡ (name_eq.ghosts).eq y x
either_way x y = by ((name_eq.ghosts).eq x y) ((name_eq.ghosts).eq y x) refl refl
  where
    by : (a b : Bool) → (name_eq.ghosts).eq x y ≡ a → (name_eq.ghosts).eq y x ≡ b
        → (name_eq.ghosts).eq x y ≡ (name_eq.ghosts).eq y x
    by true true e f = e ∙ sym f
    by false false e f = e ∙ sym f
    by true false e f =
        absurd (true≢false (sym ((bytes_eq-Decides y x).1 (sym (same_names x y e))) ∙ f))
    by false true e f =
        absurd (true≢false (sym ((bytes_eq-Decides x y).1 (sym (same_names y x f))) ∙ e))

-- a set has each of its names once, also in another order
pub once_sorted : (names sorted : List (List ℕ)) → IsDistinct (name_eq.ghosts).eq names → IsPermutation names sorted
    → AreOnce sorted
once_sorted names sorted d p =
    once (name_eq.ghosts).eq alike_names sorted
    (IsDistinct-IsPermutation (name_eq.ghosts).eq either_way names sorted p d)
