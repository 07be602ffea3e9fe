-- The names directly above a class are shaded one after the other.
use Rattle.std.proofs.Common.{◌≡◌, ℕ, ◌+◌, ◌<◌, ◌≤◌, Bool, true, List, ◌⊎◌, inl, inr, ◌↔◌, Option, Some, None}
use Rattle.std.proofs.Common.{is_some, length, sym, ◌∙◌, ap, refl, arith}
use Rattle.std.specs.Prelude.{slice_get, IsTrue}
use Rattle.std.proofs.lemmas.Bool.{cases_lt}
use Rattle.std.proofs.lemmas.Option.{same_Some, slice_get_within}
use Rattle.jv_list.proofs.DecidedLemmas.{lists}
use Rattle.jv_list.proofs.ElementLemmas.{none_at}
use Rattle.hi_tree.specs.Calls.Steps.{Marks, IsMarked}
use Rattle.hi_tree.specs.Calls.Choosing.{Shades}

-- the first names of the list are
abbrev pub ShadesBelow : ℕ → List (List ℕ) → Marks → Marks → Type 0
ShadesBelow k names old now = (q : List ℕ) → IsTrue (is_some (now q))
    ↔ (IsTrue (is_some (old q)) ⊎ ((p : ℕ) × (p < k) × (slice_get names p ≡ Some q)))

pub shade_none : (names : List (List ℕ)) (old : Marks) → ShadesBelow 0 names old old
shade_none names old q = (
  (λ on. inl on),
  (λ h. elim h [
    | inl on ↦ on
    | inr fresh ↦ absurd (omega (arith, fresh.1))
  ]),
)

module _ (names : List (List ℕ)) (old now new : Marks) (k : ℕ) (a : List ℕ) (at : slice_get names k ≡ Some a)
    (set : IsMarked now a true new) where
  marked : (q : List ℕ) → a ≡ q → IsTrue (is_some (new q))
  marked q same = ap (λ (x : List ℕ). is_some (new x)) (sym same) ∙ ap (λ (o : Option Bool). is_some o) set.same

  still : (q : List ℕ) → IsTrue (is_some (now q)) → IsTrue (is_some (new q))
  still q on = elim (lists a q) [
    | inl same ↦ marked q same
    | inr differs ↦ ap (λ (o : Option Bool). is_some o) (set.other q differs) ∙ on
  ]

  pub shade_more : ShadesBelow k names old now → ShadesBelow (k + 1) names old new
  shade_more is q = (to, back)
    where
      to : IsTrue (is_some (new q)) → IsTrue (is_some (old q)) ⊎ ((p : ℕ) × (p < k + 1) × (slice_get names p ≡ Some q))
      to on = elim (lists a q) [
        | inl same ↦ inr (k, omega arith, at ∙ ap (λ (x : List ℕ). Some x) same)
        | inr differs ↦
            elim ((is q).0 (sym (ap (λ (o : Option Bool). is_some o) (set.other q differs)) ∙ on)) [
              | inl was ↦ inl was
              | inr fresh ↦ inr (fresh.0, omega (arith, fresh.1), fresh.2)
            ]
      ]

      back : IsTrue (is_some (old q)) ⊎ ((p : ℕ) × (p < k + 1) × (slice_get names p ≡ Some q))
          → IsTrue (is_some (new q))
      back (inl was) = still q ((is q).1 (inl was))
      back (inr (p, below, e)) = elim (cases_lt p k) [
        | inl lt ↦ still q ((is q).1 (inr (p, lt, e)))
        | inr ge ↦
            let same : k ≡ p = omega (arith, below) in
            marked q (same_Some a q (sym at ∙ ap (λ (i : ℕ). slice_get names i) same ∙ e))
      ]

pub shade_all : (names : List (List ℕ)) (old now : Marks) (k : ℕ) → slice_get names k ≡ None
    → ShadesBelow k names old now → Shades true names old now
shade_all names old now k end is q = (
  (λ on. elim ((is q).0 on) [
    | inl was ↦ inl was
    | inr fresh ↦ inr (refl, fresh.0, fresh.2)
  ]),
  (λ h. elim h [
    | inl was ↦ (is q).1 (inl was)
    | inr fresh ↦ (is q).1 (inr (fresh.1, within fresh.1 fresh.2, fresh.2))
  ]),
)
  where
    within : (p : ℕ) → slice_get names p ≡ Some q → p < k
    within p e =
        let b : p < length names = slice_get_within names p q e in
        let c : length names ≤ k = none_at names k end in
        omega arith
