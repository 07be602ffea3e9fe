-- What is written, and behind it what is left after the store, is the whole.
use Rattle.std.proofs.Common.{◌≡◌, ◌++◌, length}
use Rattle.ck_shapes.specs.Calls.Runs.{joined, stored_from}
use Rattle.ck_shapes.proofs.run.stored_runs.Given as goal

abbrev pub invariant-loop-run : goal.invariant-loop-run
invariant-loop-run l =
    joined l.new ++ stored_from (joined l.rest) l.of l.left ≡ stored_from (joined l.runs) l.of l.reach

abbrev pub decreases-loop-run : goal.decreases-loop-run
decreases-loop-run l = length l.rest
