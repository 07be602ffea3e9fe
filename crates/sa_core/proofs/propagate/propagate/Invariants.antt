use Rattle.std.proofs.Common.{◌≡◌, ◌-◌, ◌*◌, length}
use Rattle.sa_core.specs.TrailView.{lits_of, Grows}
use Rattle.sa_core.specs.Watching.{AreGuarded, IsKept}
use Rattle.sa_core.proofs.propagate.propagate.Given as goal

abbrev pub invariant-loop-head : goal.invariant-loop-head
invariant-loop-head l = record {
  grows : Grows l.fn.trail.steps l.trail.steps;
  kept : IsKept l.trail.variables l.store l.watchers l.trail.steps;
  guarded : AreGuarded l.store l.watchers.pairs (lits_of l.trail.steps) l.head (length (lits_of l.trail.steps));
  variables : l.trail.variables ≡ l.fn.trail.variables;
}

abbrev pub decreases-loop-head : goal.decreases-loop-head
decreases-loop-head l = 2 * l.trail.variables - l.head
