use Rattle.std.proofs.Common.{◌≡◌, ℕ, List, map, subst, IsPermutation}
use Rattle.std.specs.List.{filter}
use Rattle.uw_keys.specs.Calls.Backward.{goes_back, turned}
use Rattle.uw_keys.proofs.IntervalLemmas.{found_are_intervals, found_cover}
use Rattle.uw_keys.proofs.intervals.Intervals.of.Goals as goal

-- what was sorted are the transfers that go back
sorted_pairs : (transfers read pairs sorted : List (ℕ × ℕ)) → read ≡ transfers
    → pairs ≡ map turned (filter goes_back read) → IsPermutation pairs sorted
    → IsPermutation (map turned (filter goes_back transfers)) sorted
sorted_pairs transfers read pairs sorted same is moved =
    subst (λ (ts : List (ℕ × ℕ)). IsPermutation (map turned (filter goes_back ts)) sorted) same
    (subst (λ (ps : List (ℕ × ℕ)). IsPermutation ps sorted) is moved)

pub returns-clause-intervals : goal.returns-clause-intervals
returns-clause-intervals c =
    let ps : List (ℕ × ℕ) = c.sort_unstable.new.self.items in
    let moved = sorted_pairs c.args.transfers.now c.as_slice.result.now c.in_ok-pairs.pairs.items ps c.as_slice.ensures
    c.in_ok-pairs.ensures c.sort_unstable.ensures.permutation in
    found_are_intervals c.args.transfers.now ps moved c.in_ok-nested.field-0 c.in_ok-nested.ensures

pub returns-clause-cover : goal.returns-clause-cover
returns-clause-cover c =
    let ps : List (ℕ × ℕ) = c.sort_unstable.new.self.items in
    let moved = sorted_pairs c.args.transfers.now c.as_slice.result.now c.in_ok-pairs.pairs.items ps c.as_slice.ensures
    c.in_ok-pairs.ensures c.sort_unstable.ensures.permutation in
    found_cover c.args.transfers.now ps moved c.in_ok-nested.field-0 c.in_ok-nested.ensures
