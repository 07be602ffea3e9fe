-- What is written, and behind it what is left after the store, is the whole.
use Rattle.std.proofs.Common.{◌≡◌, ◌++◌, length}
use Rattle.ck_shapes.specs.Calls.Runs.{stored_from}
use Rattle.ck_shapes.proofs.run.stored_items.Given as goal

abbrev pub invariant-loop-rest : goal.invariant-loop-rest
invariant-loop-rest l = l.new ++ stored_from l.rest l.of l.left ≡ stored_from l.items l.of l.reach

abbrev pub decreases-loop-rest : goal.decreases-loop-rest
decreases-loop-rest l = length l.rest
