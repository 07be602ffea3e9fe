use Rattle.std.proofs.Common.{◌≡◌, length}
use Rattle.sa_core.specs.SearchView.{trail_of, Reads}
use Rattle.sa_core.proofs.search.Search.assignment.Given as goal

abbrev pub invariant-loop-variable : goal.invariant-loop-variable
invariant-loop-variable l = record {
  number : length l.values ≡ l.variable;
  reads : Reads (trail_of l.self) l.variable l.values;
}
