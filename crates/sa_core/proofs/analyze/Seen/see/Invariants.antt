use Rattle.std.proofs.Common.{take}
use Rattle.sa_core.specs.TrailView.{lits_of}
use Rattle.sa_core.specs.Calls.Analyze.{SeesMore}
use Rattle.sa_core.proofs.analyze.Seen.see.Given as goal

abbrev pub invariant-loop-lit : goal.invariant-loop-lit
invariant-loop-lit l = SeesMore (lits_of l.trail.steps) l.mark l.fn.self l.self (take l.lit-index l.lits)
