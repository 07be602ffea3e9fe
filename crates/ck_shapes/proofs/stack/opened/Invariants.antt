-- The values of the runs below and those above are the same.
use Rattle.std.proofs.Common.{◌≡◌, ◌++◌, length}
use Rattle.ck_shapes.specs.Calls.Runs.{joined}
use Rattle.ck_shapes.proofs.stack.opened.Given as goal

abbrev pub invariant-loop-run : goal.invariant-loop-run
invariant-loop-run l = joined l.lower ++ l.upper ≡ joined l.deep ++ l.top

abbrev pub decreases-loop-run : goal.decreases-loop-run
decreases-loop-run l = length l.lower
