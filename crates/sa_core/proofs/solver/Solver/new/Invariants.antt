use Rattle.std.proofs.Common.{◌≡◌, take}
use Rattle.sa_core.specs.LogView.{added_all}
use Rattle.sa_core.proofs.solver.Solver.new.Given as goal

abbrev pub invariant-loop-clause : goal.invariant-loop-clause
invariant-loop-clause l = l.entries ≡ added_all (take l.clause-index l.clause-items)
