-- Types that are put behind others by rules.
use Rattle.std.proofs.Common.{◌≡◌, ◌⊎◌, ℕ, ◌<◌, ◌≤◌, ◌+◌, List, [], ◌∷◌, ◌++◌, length, take, map, get_or}
use Rattle.std.proofs.Common.{Contains, sym, ap, subst, ◌∙◌, inl, inr}
use Rattle.std.specs.Prelude.{◌↔◌}
use Rattle.std.proofs.lemmas.List.{map-append, take_all}
use Rattle.std.proofs.lemmas.List.Elements.{Contains-append_left, Contains-append_right, Contains-append_cases}
use Rattle.jv_list.proofs.PlaceLemmas.{take_with}
use Rattle.jv_list.proofs.MemberLemmas.{none_member, one_member, first_member}
use Rattle.jv_base.specs.Descriptor.{FieldType}
use Rattle.hi_inputs.specs.declared.flat.FlatType.{FlatType}
use Rattle.hi_inputs.specs.Calls.Flat.{field_of_flat, AreTypes, AddsTypes}

abbrev pub Rule : Type 1
Rule = FieldType → Type 0

-- nothing is put behind, where a rule allows nothing
pub adds_none : (rule : Rule) (old : List FlatType) → ((t : FieldType) → rule t → ⊥) → AddsTypes rule old old
adds_none rule old none t = (λ h. inl h, λ h. elim h [ inl o ↦ o | inr r ↦ absurd (none t r) ])

-- one type, where a rule allows exactly that
pub adds_one : (rule : Rule) (old new : List FlatType) (f : FlatType) → new ≡ old ++ f ∷ []
    → ((t : FieldType) → rule t ↔ (t ≡ field_of_flat f)) → AddsTypes rule old new
adds_one rule old new f grows exact t = (
  λ h. elim (Contains-append_cases (map field_of_flat old) (field_of_flat f ∷ []) t
      (subst (λ l. Contains l t) seen h)) [
        | inl o ↦ inl o
        | inr m ↦ inr ((exact t).1 (sym (one_member (field_of_flat f) t m)))
      ],
  λ h. subst (λ l. Contains l t) (sym seen) (elim h [
    | inl o ↦ Contains-append_left (map field_of_flat old) (field_of_flat f ∷ []) t o
    | inr r ↦
        Contains-append_right (map field_of_flat old) (field_of_flat f ∷ []) t
        (subst (Contains (field_of_flat f ∷ [])) (sym ((exact t).0 r)) (first_member (field_of_flat f) []))
  ]),
)
  where
    seen : map field_of_flat new ≡ map field_of_flat old ++ field_of_flat f ∷ []
    seen = ap (map field_of_flat) grows ∙ map-append field_of_flat old (f ∷ [])

-- what one rule allows, and then what another does
pub adds_both : (first second : Rule) (old mid new : List FlatType) → AddsTypes first old mid
    → AddsTypes second mid new → AddsTypes (λ t. first t ⊎ second t) old new
adds_both first second old mid new a b t = (
  λ h. elim ((b t).0 h) [
    | inl m ↦ elim ((a t).0 m) [ inl o ↦ inl o | inr r ↦ inr (inl r) ]
    | inr r ↦ inr (inr r)
  ],
  λ h. elim h [
    | inl o ↦ (b t).1 (inl ((a t).1 (inl o)))
    | inr r ↦ elim r [ inl r ↦ (b t).1 (inl ((a t).1 (inr r))) | inr r ↦ (b t).1 (inr r) ]
  ],
)

-- a rule that says the same
pub adds_same : (rule other : Rule) (old new : List FlatType) → ((t : FieldType) → rule t ↔ other t)
    → AddsTypes rule old new → AddsTypes other old new
adds_same rule other old new same a t = (
  λ h. elim ((a t).0 h) [ inl o ↦ inl o | inr r ↦ inr ((same t).0 r) ],
  λ h. elim h [ inl o ↦ (a t).1 (inl o) | inr r ↦ (a t).1 (inr ((same t).1 r)) ],
)

-- behind nothing
pub adds_all : (rule other : Rule) (old new : List FlatType) → old ≡ [] → ((t : FieldType) → rule t ↔ other t)
    → AddsTypes rule old new → AreTypes other new
adds_all rule other old new none same a t = (
  λ h. elim ((a t).0 h) [
    | inl o ↦ absurd (none_member t (subst (λ l. Contains (map field_of_flat l) t) none o))
    | inr r ↦ (same t).0 r
  ],
  λ r. (a t).1 (inr ((same t).1 r)),
)

pub types_same : (rule other : Rule) → ((t : FieldType) → rule t ↔ other t) → (types : List FlatType)
    → AreTypes rule types → AreTypes other types
types_same rule other same types are t = (λ h. (same t).0 ((are t).0 h), λ r. (are t).1 ((same t).1 r))

-- what a rule allows for one of some elements
abbrev pub Each : {A : Type 0} → (A → FieldType → Type 0) → List A → FieldType → Type 0
Each rule items t = (i : _) × Contains items i × rule i t

module _ {A : Type 0} (rule : A → FieldType → Type 0) (old : List FlatType) where
  pub each_none : AddsTypes (Each rule []) old old
  each_none = adds_none (Each rule []) old (λ t e. none_member e.0 e.1)

  pub each_more : (items : List A) (item : A) (mid new : List FlatType) → AddsTypes (Each rule items) old mid
      → AddsTypes (rule item) mid new → AddsTypes (Each rule (items ++ item ∷ [])) old new
  each_more items item mid new a b =
      adds_same (λ t. Each rule items t ⊎ rule item t) (Each rule (items ++ item ∷ [])) old new
      (λ t. (to t, from t)) (adds_both (Each rule items) (rule item) old mid new a b)
    where
      to : (t : FieldType) → Each rule items t ⊎ rule item t → Each rule (items ++ item ∷ []) t
      to t (inl e) = (e.0, Contains-append_left items (item ∷ []) e.0 e.1, e.2)
      to t (inr r) = (item, Contains-append_right items (item ∷ []) item (first_member item []), r)

      from : (t : FieldType) → Each rule (items ++ item ∷ []) t → Each rule items t ⊎ rule item t
      from t e = elim (Contains-append_cases items (item ∷ []) e.0 e.1) [
        | inl h ↦ inl (e.0, h, e.2)
        | inr h ↦ inr (subst (λ (i : A). rule i t) (sym (one_member item e.0 h)) e.2)
      ]

  pub each_step : (items : List A) (i : ℕ) (item : A) (mid new : List FlatType) → i < length items
      → item ≡ get_or items i item → AddsTypes (Each rule (take i items)) old mid → AddsTypes (rule item) mid new
      → AddsTypes (Each rule (take (i + 1) items)) old new
  each_step items i item mid new below at a b =
      subst (λ l. AddsTypes (Each rule l) old new) (sym (take_with items i item below at))
      (each_more (take i items) item mid new a b)

  pub each_end : (items : List A) (i : ℕ) (new : List FlatType) → length items ≤ i
      → AddsTypes (Each rule (take i items)) old new → AddsTypes (Each rule items) old new
  each_end items i new past a = subst (λ l. AddsTypes (Each rule l) old new) (take_all i items past) a
