-- What is left has to fit in what is left of the room.
use Rattle.std.proofs.Common.{◌≤◌, length}
use Rattle.ck_shapes.specs.Calls.Runs.{joined}
use Rattle.ck_shapes.proofs.run.have_at_most.Given as goal

abbrev pub invariant-loop-rest : goal.invariant-loop-rest
invariant-loop-rest l =
    (length (joined l.rest) ≤ l.room → length (joined l.runs) ≤ l.count)
    × (length (joined l.runs) ≤ l.count → length (joined l.rest) ≤ l.room)

abbrev pub decreases-loop-rest : goal.decreases-loop-rest
decreases-loop-rest l = length l.rest
