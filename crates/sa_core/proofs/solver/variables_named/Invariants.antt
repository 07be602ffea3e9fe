use Rattle.std.proofs.Common.{◌≡◌, drop}
use Rattle.sa_core.specs.LogView.{variables_with}
use Rattle.sa_core.proofs.solver.variables_named.Given as goal

abbrev pub invariant-loop-lit : goal.invariant-loop-lit
invariant-loop-lit l = variables_with l.variables (drop l.lit-index l.lits) ≡ variables_with l.count l.lits
