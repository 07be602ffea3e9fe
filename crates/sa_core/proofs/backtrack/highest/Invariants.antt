use Rattle.std.proofs.Common.{take}
use Rattle.sa_core.specs.TrailView.{lits_of}
use Rattle.sa_core.specs.Analysis.{NoHighest}
use Rattle.sa_core.proofs.backtrack.highest.Given as goal

abbrev pub invariant-loop-lit : goal.invariant-loop-lit
invariant-loop-lit l = NoHighest (lits_of l.trail.steps) (take l.lit-index l.lits) l.limit
