-- Which place `position` gives, and what it and `find` say of each other.
use Rattle.std.proofs.Common.{◌≡◌, ℕ, ◌<◌, ◌≤◌, Bool, true, false, cond, ltb, List, length, get_or, Some, None, sym}
use Rattle.std.proofs.Common.{◌∙◌, ap, arith, inl, inr}
use Rattle.std.specs.List.{position, position_or_len, find}
use Rattle.std.proofs.lemmas.Bool.{lt-ltb, le-ltb, cond-true, cond-false, cases_lt}
use Rattle.std.proofs.lemmas.List.Sums.{position_or_len_is, fails_before_first}
use Rattle.std.proofs.lemmas.List.Folds.{find_at}
use Rattle.std.proofs.lemmas.Option.{none-some, same_Some, slice_get_past, slice_get-get_or}

module _ {X : Type 0} (p : X → Bool) (xs : List X) (d : X) where
  -- the first place that passes
  pub position_is : (k : ℕ) → k < length xs → ((j : ℕ) → j < k → p (get_or xs j d) ≡ false)
      → p (get_or xs k d) ≡ true → position p xs ≡ Some k
  position_is k within before here =
      let at = position_or_len_is p xs k d (omega arith) before (λ h. here) in
      ap (λ (i : ℕ). cond (ltb i (length xs)) (Some i) None) at
      ∙ cond-true (ltb k (length xs)) (Some k) None (lt-ltb k (length xs) within)

  -- none, where no place passes
  pub position_none : ((j : ℕ) → j < length xs → p (get_or xs j d) ≡ false) → position p xs ≡ None
  position_none before =
      let n = length xs in
      let at = position_or_len_is p xs n d (omega arith) before (λ h. absurd (omega (arith, h))) in
      ap (λ (i : ℕ). cond (ltb i n) (Some i) None) at ∙ cond-false (ltb n n) (Some n) None (le-ltb n n (omega arith))

module _ {X : Type 0} (p : X → Bool) (xs : List X) where
  abbrev first : ℕ
  first = position_or_len p xs

  -- there is a place exactly where the first one is within the list
  within_is : first < length xs → position p xs ≡ Some first
  within_is lt = cond-true (ltb first (length xs)) (Some first) None (lt-ltb first (length xs) lt)

  past_is : length xs ≤ first → position p xs ≡ None
  past_is ge = cond-false (ltb first (length xs)) (Some first) None (le-ltb first (length xs) ge)

  none_past : position p xs ≡ None → length xs ≤ first
  none_past none =
      elim (cases_lt first (length xs)) [
        | inl lt ↦ absurd (none-some first (sym none ∙ within_is lt))
        | inr ge ↦ ge
      ]

  some_first : (i : ℕ) → position p xs ≡ Some i → (first ≡ i) × (first < length xs)
  some_first i some =
      elim (cases_lt first (length xs)) [
        | inl lt ↦ (same_Some first i (sym (within_is lt) ∙ some), lt)
        | inr ge ↦ absurd (none-some i (sym (past_is ge) ∙ some))
      ]

  -- no place passes where there is none
  pub none_passes : position p xs ≡ None → (k : ℕ) (d : X) → k < length xs → p (get_or xs k d) ≡ false
  none_passes none k d within = let past = none_past none in fails_before_first p xs k d (omega arith)

  -- what stands at the first place is found
  pub found_at : (i : ℕ) (d : X) → position p xs ≡ Some i → find p xs ≡ Some (get_or xs i d)
  found_at i d some =
      let at = some_first i some in
      find_at p xs ∙ slice_get-get_or xs first d at.1 ∙ ap (λ (k : ℕ). Some (get_or xs k d)) at.0

  pub none_found : position p xs ≡ None → find p xs ≡ None
  none_found none = find_at p xs ∙ slice_get_past xs first (none_past none)
