use Rattle.std.proofs.Common.{take}
use Rattle.sa_core.specs.TrailView.{lits_of}
use Rattle.sa_core.specs.Analysis.{IsMinimized}
use Rattle.sa_core.proofs.minimize.minimized.Given as goal

abbrev pub invariant-loop-other : goal.invariant-loop-other
invariant-loop-other l = IsMinimized l.store (lits_of l.trail.steps) l.seen l.fn.lit (take l.other-index l.lower) l.lits
