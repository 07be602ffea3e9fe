-- Whether less is known is asked of what is left.
use Rattle.std.proofs.Common.{length}
use Rattle.ck_shapes.specs.Calls.Runs.{joined}
use Rattle.ck_shapes.proofs.RunLemmas.{Remains}
use Rattle.ck_shapes.proofs.run.are_known_less.Given as goal

abbrev pub invariant-loop-l : goal.invariant-loop-l
invariant-loop-l l = Remains (joined l.less) (joined l.more) (joined l.lefts) (joined l.rights)

abbrev pub decreases-loop-l : goal.decreases-loop-l
decreases-loop-l l = length l.lefts
