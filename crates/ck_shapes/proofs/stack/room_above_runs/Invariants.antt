-- What is left of the runs has to fit in what is left of the room.
use Rattle.std.proofs.Common.{◌≡◌, ◌+◌, length}
use Rattle.ck_shapes.specs.Shape.{words}
use Rattle.ck_shapes.specs.Calls.Runs.{joined}
use Rattle.ck_shapes.proofs.stack.room_above_runs.Given as goal

abbrev pub invariant-loop-run : goal.invariant-loop-run
invariant-loop-run l = words (joined l.rest) + l.room ≡ words (joined l.runs) + l.left

abbrev pub decreases-loop-run : goal.decreases-loop-run
decreases-loop-run l = length l.rest
