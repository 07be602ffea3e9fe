use Rattle.std.proofs.Common.{◌≡◌, ℕ, ◌≤◌, Some, None, slice_get}
use Rattle.sa_core.specs.declared.step.Step.{Step}
use Rattle.sa_core.proofs.decide.last_decision.Given as goal

abbrev pub invariant-loop-place : goal.invariant-loop-place
invariant-loop-place l =
    (at : ℕ) (step : Step) → l.place ≤ at → slice_get l.trail.steps at ≡ Some step → step.reason ≡ None → ⊥
