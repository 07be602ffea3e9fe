use Rattle.sa_core.specs.TrailView.{lits_of, AllGiven}
use Rattle.sa_core.proofs.decide.first_open.Given as goal

abbrev pub invariant-loop-variable : goal.invariant-loop-variable
invariant-loop-variable l = AllGiven l.variable (lits_of l.trail.steps)
