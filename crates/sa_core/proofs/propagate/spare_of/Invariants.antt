use Rattle.std.proofs.Common.{take}
use Rattle.sa_core.specs.TrailView.{lits_of}
use Rattle.sa_core.specs.Calls.Propagate.{AreFalseBut}
use Rattle.sa_core.proofs.propagate.spare_of.Given as goal

abbrev pub invariant-loop-index : goal.invariant-loop-index
invariant-loop-index l = AreFalseBut (lits_of l.trail.steps) (take l.index l.lits) l.other
