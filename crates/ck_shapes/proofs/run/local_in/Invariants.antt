-- The local is sought in what is left.
use Rattle.std.proofs.Common.{◌≡◌, length}
use Rattle.ck_shapes.specs.Shape.{local_at}
use Rattle.ck_shapes.specs.Calls.Runs.{joined}
use Rattle.ck_shapes.proofs.run.local_in.Given as goal

abbrev pub invariant-loop-rest : goal.invariant-loop-rest
invariant-loop-rest l = local_at (joined l.rest) l.at ≡ local_at (joined l.runs) l.index

abbrev pub decreases-loop-rest : goal.decreases-loop-rest
decreases-loop-rest l = length l.rest
