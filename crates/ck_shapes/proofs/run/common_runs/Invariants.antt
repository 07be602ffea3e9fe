-- What is common to what is left makes what is written what is common to all.
use Rattle.std.proofs.Common.{length}
use Rattle.ck_shapes.specs.Calls.Runs.{joined}
use Rattle.ck_shapes.proofs.RunLemmas.{Completes}
use Rattle.ck_shapes.proofs.run.common_runs.Given as goal

abbrev pub invariant-loop-l : goal.invariant-loop-l
invariant-loop-l l = Completes (joined l.left) (joined l.right) (joined l.lefts) (joined l.rights) (joined l.both)

abbrev pub decreases-loop-l : goal.decreases-loop-l
decreases-loop-l l = length l.lefts
