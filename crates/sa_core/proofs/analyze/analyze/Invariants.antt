use Rattle.std.proofs.Common.{◌≡◌, ◌≤◌, length}
use Rattle.sa_core.specs.TrailView.{lits_of}
use Rattle.sa_core.specs.Analysis.{IsLower, GivesConflict, SomeSeen}
use Rattle.sa_core.proofs.analyze.analyze.Given as goal

abbrev pub invariant-loop-end : goal.invariant-loop-end
invariant-loop-end l = record {
  within : l.end ≤ length l.trail.steps;
  same : length l.seen.places ≡ length l.trail.steps;
  lower : IsLower (lits_of l.trail.steps) l.mark l.seen.places l.seen.lower;
  gives : GivesConflict l.store (lits_of l.trail.steps) l.seen.places l.end;
  some : SomeSeen l.seen.places l.mark l.end;
}

abbrev pub decreases-loop-end : goal.decreases-loop-end
decreases-loop-end l = l.end
