use Rattle.std.proofs.Common.{◌≡◌, length, take}
use Rattle.sa_core.proofs.trail.Trail.cut.Given as goal

abbrev pub invariant-loop-self : goal.invariant-loop-self
invariant-loop-self l = record {
  steps : take l.count l.self.steps ≡ take l.count l.fn.self.steps;
  variables : l.self.variables ≡ l.fn.self.variables;
}

abbrev pub decreases-loop-self : goal.decreases-loop-self
decreases-loop-self l = length l.self.steps
