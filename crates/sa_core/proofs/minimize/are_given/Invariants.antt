use Rattle.std.proofs.Common.{take}
use Rattle.sa_core.specs.TrailView.{lits_of}
use Rattle.sa_core.specs.Analysis.{AreSeenFalse}
use Rattle.sa_core.proofs.minimize.are_given.Given as goal

abbrev pub invariant-loop-lit : goal.invariant-loop-lit
invariant-loop-lit l = AreSeenFalse (lits_of l.trail.steps) l.seen (take l.lit-index l.lits) l.but
