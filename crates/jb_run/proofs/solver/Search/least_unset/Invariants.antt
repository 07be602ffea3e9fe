-- The variables so far have a value.
use Rattle.std.proofs.Common.{◌≡◌, ℕ, ◌<◌, None}
use Rattle.jb_run.specs.Solved.{known_at}
use Rattle.jb_run.proofs.solver.Search.least_unset.Given as goal

abbrev pub invariant-loop-variable : goal.invariant-loop-variable
invariant-loop-variable l = (lower : ℕ) → lower < l.variable → known_at l.self.values.items lower ≡ None → ⊥
