use Rattle.std.proofs.Common.{take}
use Rattle.sa_core.specs.TrailView.{lits_of}
use Rattle.sa_core.specs.Calls.Start.{IsScanned}
use Rattle.sa_core.proofs.start.shown_by.Given as goal

abbrev pub invariant-loop-lit : goal.invariant-loop-lit
invariant-loop-lit l = IsScanned (lits_of l.trail.steps) (take l.lit-index l.lits) l.single
