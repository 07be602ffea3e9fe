-- The marks are closed from a place on.
use Rattle.std.proofs.Common.{◌≤◌}
use Rattle.bb_terms.specs.Calls.Marks.{IsClosedFrom}
use Rattle.bb_terms.proofs.cone.cone.Given as goal

abbrev pub invariant-loop-from : goal.invariant-loop-from
invariant-loop-from l = record {
  closed : IsClosedFrom l.fn.bank l.fn.table l.fn.id.0 l.from l.marks;
  within : l.from ≤ l.fn.id.0;
}

abbrev pub decreases-loop-from : goal.decreases-loop-from
decreases-loop-from l = l.from
