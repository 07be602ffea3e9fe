-- Pairs of a target and a source, sorted, and what they are made of.
use Rattle.std.proofs.Common.{◌≡◌, ◌⊎◌, ℕ, suc, ◌+◌, ◌≤◌, ◌<◌, true, false, List, ◌∷◌, ◌++◌, map, length, get_or}
use Rattle.std.proofs.Common.{Contains, IsPermutation, refl, sym, ap, subst, inl, inr, ◌∙◌, nat_cmp, arith}
use Rattle.std.specs.List.{filter}
use Rattle.std.specs.List.Sorted.{IsSorted}
use Rattle.std.specs.Ordering.{is_lt, ordering_then}
use Rattle.std.specs.Cmp.{IsTotalOrder}
use Rattle.std.specs.declared.cmp.Ordering.{Ordering}
use Rattle.std.specs.declared.cmp.Ordering.TheVariants.{Less, Equal}
use Rattle.std.proofs.lemmas.Bool.{cases_lt}
use Rattle.std.proofs.lemmas.Bool.Decides.{nat_tests}
use Rattle.std.proofs.lemmas.Cmp.{then_total, on_total, nat_cmp_total}
use Rattle.std.proofs.lemmas.List.{get_or_at, get_or-append-add, length-append}
use Rattle.std.proofs.lemmas.List.Sorted.{sorted_far, ranks_by, Contains-permutation, IsPermutation-sym}
use Rattle.jv_list.proofs.MemberLemmas.{in_map, from_map}
use Rattle.uw_keys.specs.Calls.Backward.{pair_order, goes_back, turned}
use Rattle.jv_list.proofs.FilterLemmas.{in_filter, from_filter}

total : IsTotalOrder pair_order
total = then_total (on_total (λ (p : ℕ × ℕ). p.0) nat_cmp_total) (on_total (λ (p : ℕ × ℕ). p.1) nat_cmp_total)

-- a pair that is not below another
not_below : (u r t s : ℕ) → is_lt (pair_order (u, r) (t, s)) ≡ false → (t < u) ⊎ ((t ≡ u) × (s ≤ r))
not_below u r t s h =
    elim (cases_lt t u) [
      | inl less ↦ inl less
      | inr more ↦
          elim (cases_lt u t) [
            | inl before ↦
                let e : nat_cmp u t ≡ Less = grind (arith, nat_tests) in
                let no : true ≡ false = ap (λ (o : Ordering). is_lt (ordering_then o (nat_cmp r s))) (sym e) ∙ h in
                absurd cc
            | inr same ↦
                let e : nat_cmp u t ≡ Equal = grind (arith, nat_tests) in
                let rest : is_lt (nat_cmp r s) ≡ false =
                ap (λ (o : Ordering). is_lt (ordering_then o (nat_cmp r s))) (sym e) ∙ h in
                let le : s ≤ r = grind (arith, nat_tests) in
                inr (omega arith, le)
          ]
    ]

-- of sorted pairs, each is not below those before it
pub sorted_behind : (left : List (ℕ × ℕ)) (t s : ℕ) (seen : List (ℕ × ℕ)) → IsSorted pair_order (left ++ (t, s) ∷ seen)
    → (u r : ℕ) → Contains seen (u, r) → (t < u) ⊎ ((t ≡ u) × (s ≤ r))
sorted_behind left t s seen sorted u r h =
    let all : List (ℕ × ℕ) = left ++ (t, s) ∷ seen in
    let n : ℕ = length left in
    let size : length all ≡ n + suc (length seen) = length-append left ((t, s) ∷ seen) in
    let far = sorted_far (λ x y. is_lt (pair_order x y)) (ranks_by total (λ (p : ℕ × ℕ). p)) all sorted n (n + suc h.0)
    (u, r) (omega arith) (omega (arith, h.1)) in
    let first : get_or all n (u, r) ≡ (t, s) = get_or_at left (t, s) seen (u, r) n refl in
    let second : get_or all (n + suc h.0) (u, r) ≡ (u, r) =
    get_or-append-add left ((t, s) ∷ seen) (suc h.0) (u, r) ∙ h.2 in
    not_below u r t s
    (subst (λ (p : ℕ × ℕ). is_lt (pair_order (u, r) p) ≡ false) first
    (subst (λ (p : ℕ × ℕ). is_lt (pair_order p (get_or all n (u, r))) ≡ false) second far))

-- the pairs are the transfers that go back
module _ (transfers pairs : List (ℕ × ℕ)) (sorted : IsPermutation (map turned (filter goes_back transfers)) pairs) where
  pub in_pairs : (s t : ℕ) → Contains transfers (s, t) → t ≤ s → Contains pairs (t, s)
  in_pairs s t h back =
      let passes : goes_back (s, t) ≡ true = grind (arith, nat_tests) in
      Contains-permutation (map turned (filter goes_back transfers)) pairs (t, s) sorted
      (in_map turned (filter goes_back transfers) (s, t) (in_filter goes_back transfers (s, t) h passes))

  pub from_pairs : (s t : ℕ) → Contains pairs (t, s) → Contains transfers (s, t) × (t ≤ s)
  from_pairs s t h =
      let m = from_map turned (filter goes_back transfers) (t, s)
      (Contains-permutation pairs (map turned (filter goes_back transfers)) (t, s)
      (IsPermutation-sym (map turned (filter goes_back transfers)) pairs sorted) h) in
      let f = from_filter goes_back transfers m.0 m.1 in
      let e : m.0 ≡ (s, t) = ap turned m.2 in
      let back : goes_back (s, t) ≡ true = ap goes_back (sym e) ∙ f.1 in
      (subst (λ (p : ℕ × ℕ). Contains transfers p) e f.0, grind (arith, nat_tests))
