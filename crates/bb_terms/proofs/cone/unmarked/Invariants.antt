-- Marks that are not set.
use Rattle.std.proofs.Common.{◌≤◌, ◌+◌, ◌-◌, ℕ, length}
use Rattle.bb_terms.specs.Calls.Marks.{IsMarked}
use Rattle.bb_terms.proofs.cone.unmarked.Given as goal

abbrev pub invariant-loop-marks : goal.invariant-loop-marks
invariant-loop-marks l = record { fits : length l.marks ≤ l.fn.last + 1; none : (j : ℕ) → IsMarked l.marks j → ⊥ }

abbrev pub decreases-loop-marks : goal.decreases-loop-marks
decreases-loop-marks l = (l.fn.last + 1) - length l.marks
