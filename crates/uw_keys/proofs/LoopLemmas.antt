-- The loop that goes over sorted pairs from the last to the first.
use Rattle.std.proofs.Common.{◌≡◌, ℕ, List, [], ◌∷◌, ◌++◌, reverse, sym, ap, subst, ◌∙◌, append-nil, append_assoc}
use Rattle.std.specs.List.Sorted.{IsSorted}
use Rattle.uw_keys.specs.declared.interval.Interval.{Interval}
use Rattle.uw_keys.specs.Calls.Backward.{Takes, Found, pair_order}
use Rattle.uw_keys.proofs.NestLemmas.{Progress, nothing_seen, seen_more}
use Rattle.uw_keys.proofs.SortLemmas.{sorted_behind}

-- some pairs are left, and the others are seen
pub record IsLeft (all left : List (ℕ × ℕ)) (found outer : List Interval) : Type 0 where
  pub seen : List (ℕ × ℕ)
  pub whole : all ≡ left ++ seen
  pub progress : Progress seen (reverse found) (reverse outer)

pub all_left : (all : List (ℕ × ℕ)) → IsLeft all all [] []
all_left all = record { seen = []; whole = sym (append-nil all); progress = nothing_seen }

pub one_less : (all left : List (ℕ × ℕ)) (found outer : List Interval) → IsSorted pair_order all
    → IsLeft all left found outer → (rest : List (ℕ × ℕ)) (t s : ℕ) → left ≡ rest ++ (t, s) ∷ []
    → (found' outer' : List Interval) → Takes (reverse found) (reverse outer) t s (reverse found') (reverse outer')
    → IsLeft all rest found' outer'
one_less all left found outer sorted h rest t s is found' outer' takes =
    let whole : all ≡ rest ++ (t, s) ∷ h.seen =
    h.whole ∙ ap (λ (ps : List (ℕ × ℕ)). ps ++ h.seen) is ∙ append_assoc rest ((t, s) ∷ []) h.seen in
    let sorted' : IsSorted pair_order (rest ++ (t, s) ∷ h.seen) =
    subst (λ (ps : List (ℕ × ℕ)). IsSorted pair_order ps) whole sorted in
    record {
      seen = (t, s) ∷ h.seen;
      whole = whole;
      progress = seen_more h.seen (reverse found) (reverse outer) t s h.progress
          (sorted_behind rest t s h.seen sorted') (reverse found') (reverse outer') takes;
    }

pub none_left : (all : List (ℕ × ℕ)) (found outer : List Interval) → IsLeft all [] found outer
    → Found all (reverse found)
none_left all found outer h =
    subst (λ (ps : List (ℕ × ℕ)). Found ps (reverse found)) (sym h.whole) h.progress.found
