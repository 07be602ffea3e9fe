use Rattle.std.proofs.Common.{◌≡◌, ◌<◌, ℕ}
use Rattle.sa_core.specs.TrailView.{lits_of, Grows}
use Rattle.sa_core.specs.Watching.{IsKept}
use Rattle.sa_core.specs.Calls.Start.{IsStarted}
use Rattle.sa_core.proofs.start.start.Given as goal

abbrev pub invariant-loop-place : goal.invariant-loop-place
invariant-loop-place l = record {
  grows : Grows l.fn.trail.steps l.trail.steps;
  kept : IsKept l.trail.variables l.store l.watchers l.trail.steps;
  started : (place : ℕ) → place < l.place → IsStarted l.store l.watchers.pairs (lits_of l.trail.steps) place;
  variables : l.trail.variables ≡ l.fn.trail.variables;
}
