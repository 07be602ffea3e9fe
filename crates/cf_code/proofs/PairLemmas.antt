-- Pairs of numbers that are sorted and of which each is kept once.
use Rattle.std.proofs.Common.{◌≡◌, ◌↔◌, ℕ, ◌+◌, Bool, true, List, Contains, IsPermutation, inl, inr, ◌⊎◌, refl, sym}
use Rattle.std.proofs.Common.{◌∙◌, subst, ap, nat_cmp, eqb-true, arith}
use Rattle.std.specs.Prelude.{◌&&◌, nat_eq}
use Rattle.std.specs.declared.cmp.Ordering.{Ordering}
use Rattle.std.specs.declared.cmp.Ordering.TheVariants.{Less, Equal, Greater}
use Rattle.std.specs.Ordering.{ordering_then, eq_by_cmp, is_eq}
use Rattle.std.specs.Cmp.{IsTotalOrder, IsEquivalence, tied_then}
use Rattle.std.specs.List.{dedup}
use Rattle.std.specs.List.Sorted.{IsSorted, IsStrictlySortedBy}
use Rattle.std.proofs.lemmas.Bool.{and_parts}
use Rattle.std.proofs.lemmas.Bool.Decides.{nat_tests}
use Rattle.std.proofs.lemmas.Cmp.{ranked, nat_cmp_total, then_total, on_total, nat_eq_equiv, and_equiv, on_equiv}
use Rattle.std.proofs.lemmas.List.Kept.{Contains-dedup, Contains-from_dedup, IsStrictlySortedBy-dedup}
use Rattle.std.proofs.lemmas.List.Sorted.{Contains-permutation, IsPermutation-sym}
use Rattle.std.proofs.lemmas.Map.Keys.{Less-from_sorted}
use Rattle.cf_code.specs.Transfers.{IsBelow, AreInOrder}

-- by the first number, then by the second
abbrev pub pair_order : ℕ × ℕ → ℕ × ℕ → Ordering
pair_order x y = ordering_then (nat_cmp x.0 y.0) (nat_cmp x.1 y.1)

-- both numbers are the same
abbrev pub pair_eq : ℕ × ℕ → ℕ × ℕ → Bool
pair_eq x y = nat_eq x.0 y.0 && nat_eq x.1 y.1

total : IsTotalOrder pair_order
total = then_total (on_total (λ (p : ℕ × ℕ). p.0) nat_cmp_total) (on_total (λ (p : ℕ × ℕ). p.1) nat_cmp_total)

equiv : IsEquivalence pair_eq
equiv = and_equiv (on_equiv (λ (p : ℕ × ℕ). p.0) nat_eq_equiv) (on_equiv (λ (p : ℕ × ℕ). p.1) nat_eq_equiv)

-- numbers that compare as the same
same_numbers : (a b : ℕ) → nat_eq a b ≡ is_eq (nat_cmp a b)
same_numbers a b = grind (arith, nat_tests)

ties : (x y : ℕ × ℕ) → pair_eq x y ≡ eq_by_cmp pair_order x y
ties x y =
    ap (λ (t : Bool). t && nat_eq x.1 y.1) (same_numbers x.0 y.0)
    ∙ ap (λ (t : Bool). is_eq (nat_cmp x.0 y.0) && t) (same_numbers x.1 y.1)
    ∙ tied_then (nat_cmp x.0 y.0) (nat_cmp x.1 y.1)

exact : (x y : ℕ × ℕ) → pair_eq x y ≡ true → x ≡ y
exact (a, b) (c, d) e =
    let both = and_parts (nat_eq a c) (nat_eq b d) e in
    ap (λ (n : ℕ). (n, b)) (eqb-true a c both.0) ∙ ap (λ (n : ℕ). (c, n)) (eqb-true b d both.1)

-- what a comparison of pairs says of the numbers
less_cases : (o p : Ordering) → ordering_then o p ≡ Less → (o ≡ Less) ⊎ ((o ≡ Equal) × (p ≡ Less))
less_cases Less p e = inl refl
less_cases Equal p e = inr (refl, e)
less_cases Greater p e = absurd cc

below_from_less : (x y : ℕ × ℕ) → pair_order x y ≡ Less → IsBelow x y
below_from_less (a, b) (c, d) e =
    elim (less_cases (nat_cmp a c) (nat_cmp b d) e) [
      | inl less ↦ inl (ranked a c Less (sym less))
      | inr q ↦ inr (ranked a c Equal (sym q.0), ranked b d Less (sym q.1))
    ]

-- sorted pairs of which each is kept once are in order
pub in_order : (xs ys : List (ℕ × ℕ)) → IsSorted pair_order xs → ys ≡ dedup pair_eq xs → AreInOrder ys
in_order xs ys sorted is k d h =
    let strict = subst (λ (zs : List (ℕ × ℕ)). IsStrictlySortedBy pair_order zs) (sym is)
    (IsStrictlySortedBy-dedup total ties xs sorted) in
    below_from_less _ _ (Less-from_sorted pair_order ys k (k + 1) d strict (omega arith) h)

-- they are the pairs that were there before
pub same_members : (raw xs ys : List (ℕ × ℕ)) (p : ℕ × ℕ) → IsPermutation raw xs → ys ≡ dedup pair_eq xs
    → Contains ys p ↔ Contains raw p
same_members raw xs ys p moved is = (
  λ h. Contains-permutation xs raw p (IsPermutation-sym raw xs moved)
      (Contains-from_dedup pair_eq xs p (subst (λ (zs : List (ℕ × ℕ)). Contains zs p) is h)),
  λ h. subst (λ (zs : List (ℕ × ℕ)). Contains zs p) (sym is)
      (Contains-dedup equiv exact xs p (Contains-permutation raw xs p moved h)),
)
