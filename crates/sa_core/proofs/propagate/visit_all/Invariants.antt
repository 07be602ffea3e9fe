use Rattle.std.proofs.Common.{◌≡◌}
use Rattle.sa_core.specs.TrailView.{Grows}
use Rattle.sa_core.specs.Calls.Propagate.{IsTurning}
use Rattle.sa_core.proofs.propagate.visit_all.Given as goal

abbrev pub invariant-loop-index : goal.invariant-loop-index
invariant-loop-index l = record {
  grows : Grows l.fn.trail.steps l.trail.steps;
  turning : IsTurning l.trail.variables l.store l.watchers l.trail.steps l.head l.lit l.index;
  variables : l.trail.variables ≡ l.fn.trail.variables;
}

abbrev pub decreases-loop-index : goal.decreases-loop-index
decreases-loop-index l = l.index
