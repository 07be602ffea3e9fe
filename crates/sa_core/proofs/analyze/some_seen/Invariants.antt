use Rattle.std.proofs.Common.{ℕ, ◌<◌, ◌≤◌}
use Rattle.sa_core.specs.Analysis.{IsSeen}
use Rattle.sa_core.proofs.analyze.some_seen.Given as goal

abbrev pub invariant-loop-place : goal.invariant-loop-place
invariant-loop-place l = (at : ℕ) → l.place ≤ at → at < l.end → IsSeen l.places at → ⊥
