-- The intervals that were found are those of the transfers, and transfers have one list of intervals at most.
use Rattle.std.proofs.Common.{◌≡◌, ℕ, ◌≤◌, ◌<◌, Bool, true, false, List, [], ◌∷◌, map, Contains, IsPermutation}
use Rattle.std.proofs.Common.{refl, sym, ap, subst, inl, inr, ◌∙◌, arith}
use Rattle.std.specs.Prelude.{nat_eq, if◌then◌else◌}
use Rattle.std.specs.List.{filter}
use Rattle.std.proofs.lemmas.Bool.Decides.{nat_tests}
use Rattle.jv_list.proofs.MemberLemmas.{none_member, member_cases, first_member, in_map, from_map}
use Rattle.uw_keys.specs.declared.interval.Interval.{Interval}
use Rattle.uw_keys.specs.Intervals.{Ascend, AreIntervals, AreNested, IsTarget, Cover, end_at, target_of}
use Rattle.uw_keys.specs.Calls.Backward.{Found, turned, goes_back}
use Rattle.uw_keys.specs.Laws.{OneList}
use Rattle.jv_list.proofs.MemberLemmas.{later_member}
use Rattle.uw_keys.proofs.SortLemmas.{in_pairs, from_pairs}

-- the end that a list gives the target of an interval in it
pub end_of_member : (is : List Interval) → Ascend is → (i : Interval) → Contains is i → end_at is i.target ≡ i.end
end_of_member [] order i h = absurd (none_member i h)
end_of_member (x ∷ is) order i h =
    elim (member_cases x is i h) [
      | inl e ↦
          let same : nat_eq x.target i.target ≡ true =
          let target : x.target ≡ i.target = ap (λ (k : Interval). k.target) e in grind (arith, nat_tests) in
          ap (λ (t : Bool). if t then x.end else end_at is i.target) same ∙ ap (λ (k : Interval). k.end) e
      | inr more ↦
          let less : x.target < i.target = order.0 i more in
          let other : nat_eq x.target i.target ≡ false = grind (arith, nat_tests) in
          ap (λ (t : Bool). if t then x.end else end_at is i.target) other ∙ end_of_member is order.1 i more
    ]

-- an end in place of an equal target's
at_target : (is : List Interval) → Ascend is → (i : Interval) → Contains is i → (t : ℕ) → i.target ≡ t
    → end_at is t ≡ i.end
at_target is order i h t e = subst (λ (u : ℕ). end_at is u ≡ i.end) e (end_of_member is order i h)

module _ (transfers pairs : List (ℕ × ℕ)) (sorted : IsPermutation (map turned (filter goes_back transfers)) pairs)
    (is : List Interval) (found : Found pairs is) where
  in' : (s t : ℕ) → Contains transfers (s, t) → t ≤ s → Contains pairs (t, s)
  in' = in_pairs transfers pairs sorted

  from' : (s t : ℕ) → Contains pairs (t, s) → Contains transfers (s, t) × (t ≤ s)
  from' = from_pairs transfers pairs sorted

  -- the interval of a target
  interval_of : (t : ℕ) → IsTarget transfers t → (i : Interval) × Contains is i × (i.target ≡ t)
  interval_of t h =
      let i = found.sources t h.source (in' h.source t h.among h.back) in
      (i.0, i.1, i.2)

  target_from : (i : Interval) → Contains is i → IsTarget transfers i.target
  target_from i h =
      let s = found.targets i h in
      let m = from' s.0 i.target s.1 in
      record { source = s.0; back = m.1; among = m.0 }

  pair_target : (t s : ℕ) → Contains pairs (t, s) → IsTarget transfers t
  pair_target t s h = let m = from' s t h in record { source = s; back = m.1; among = m.0 }

  pub found_are_intervals : AreIntervals transfers is
  found_are_intervals = record {
    targets = λ t. (
      λ h. let i = interval_of t h in
          subst (λ (u : ℕ). Contains (map target_of is) u) i.2 (in_map target_of is i.0 i.1),
      λ h. let i = from_map target_of is t h in subst (λ (u : ℕ). IsTarget transfers u) i.2 (target_from i.0 i.1),
    );
    order = found.order;
    ends = record {
      sources = λ s t h back.
          let i = found.sources t s (in' s t h back) in
          omega (arith, i.3, at_target is found.order i.0 i.1 t i.2);
      inner = λ t u ht hu le inside.
          let i = interval_of t ht in
          let j = interval_of u hu in
          let first = at_target is found.order i.0 i.1 t i.2 in
          let second = at_target is found.order j.0 j.1 u j.2 in
          let goes = found.inner i.0 j.0 i.1 j.1 (omega (arith, i.2, j.2)) (omega (arith, i.2, j.2)) in
          omega (arith, goes);
    };
    least = λ end ends t h.
        let i = interval_of t h in
        let at = at_target is found.order i.0 i.1 t i.2 in
        let least = found.least end (λ u r g. let m = from' r u g in ends.sources r u m.0 m.1)
        (λ u r v q g k. ends.inner u v (pair_target u r g) (pair_target v q k)) i.0 i.1 in
        let same : end i.0.target ≡ end t = ap end i.2 in
        omega (arith, at, least, same);
  }

  pub found_cover : (a b : ℕ) → Contains transfers (a, b) → Cover is a b
  found_cover a b h back = found.sources b a (in' a b h back)

  pub found_are_nested : AreNested is
  found_are_nested = record { order = found.order; inner = found.inner }

-- ascending lists with the same intervals are the same
module _ (x y : Interval) (xs ys : List Interval) (up : Ascend (x ∷ xs)) where
  same_heads : Ascend (y ∷ ys) → Contains (y ∷ ys) x → Contains (x ∷ xs) y → x ≡ y
  same_heads up' there back =
      elim (member_cases y ys x there) [
        | inl e ↦ sym e
        | inr later ↦
            elim (member_cases x xs y back) [
              | inl e ↦ e
              | inr later' ↦ absurd (omega (arith, up'.0 x later, up.0 y later'))
            ]
      ]

  in_tail : x ≡ y → ((i : Interval) → Contains (x ∷ xs) i → Contains (y ∷ ys) i) → (i : Interval) → Contains xs i
      → Contains ys i
  in_tail heads there i h =
      elim (member_cases y ys i (there i (later_member x xs i h))) [
        | inl e ↦
            let target : x.target ≡ i.target = ap (λ (k : Interval). k.target) (heads ∙ e) in
            absurd (omega (arith, up.0 i h))
        | inr more ↦ more
      ]

same_ascending : (xs ys : List Interval) → Ascend xs → Ascend ys → ((i : Interval) → Contains xs i → Contains ys i)
    → ((i : Interval) → Contains ys i → Contains xs i) → xs ≡ ys
same_ascending [] [] up-x up-y there back = refl
same_ascending [] (y ∷ ys) up-x up-y there back = absurd (none_member y (back y (first_member y ys)))
same_ascending (x ∷ xs) [] up-x up-y there back = absurd (none_member x (there x (first_member x xs)))
same_ascending (x ∷ xs) (y ∷ ys) up-x up-y there back =
    let heads : x ≡ y = same_heads x y xs ys up-x up-y (there x (first_member x xs)) (back y (first_member y ys)) in
    let tails : xs ≡ ys =
    same_ascending xs ys up-x.1 up-y.1 (in_tail x y xs ys up-x heads there) (in_tail y x ys xs up-y (sym heads) back)
    in
    ap (λ (z : Interval). z ∷ xs) heads ∙ ap (λ (zs : List Interval). y ∷ zs) tails

-- an interval of one list is in the other
module _ (transfers : List (ℕ × ℕ)) (first second : List Interval) (a : AreIntervals transfers first)
    (b : AreIntervals transfers second) where
  in_other : (i : Interval) → Contains first i → Contains second i
  in_other i h =
      let target = (a.targets i.target).1 (in_map target_of first i h) in
      let j = from_map target_of second i.target ((b.targets i.target).0 target) in
      let here = end_of_member first a.order i h in
      let there = at_target second b.order j.0 j.1 i.target j.2 in
      let le = a.least (end_at second) b.ends i.target target in
      let ge = b.least (end_at first) a.ends i.target target in
      let ends : j.0.end ≡ i.end = omega arith in
      let same : j.0 ≡ i = λ k. record { target = j.2 k; end = ends k } in
      subst (λ (x : Interval). Contains second x) same j.1

pub one_list : OneList
one_list transfers first second a b =
    same_ascending first second a.order b.order (in_other transfers first second a b)
    (in_other transfers second first b a)
