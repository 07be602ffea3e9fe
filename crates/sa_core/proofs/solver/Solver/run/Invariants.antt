use Rattle.std.proofs.Common.{◌≡◌, ◌+◌, ◌-◌, ◌*◌, ◌^◌}
use Rattle.sa_core.specs.SpentLog.{all_clauses}
use Rattle.sa_core.specs.Solvers.{number_of, entries_of}
use Rattle.sa_core.specs.LogView.{Learns}
use Rattle.sa_core.specs.Answers.{IsLeft}
use Rattle.sa_core.specs.SearchView.{IsSearching, reached}
use Rattle.sa_core.proofs.solver.Solver.run.Given as goal

abbrev pub invariant-loop-found : goal.invariant-loop-found
invariant-loop-found l = record {
  searching : IsSearching l.search (number_of l.self) (all_clauses (entries_of l.self)) l.found;
  learns : Learns (entries_of l.fn.self) (entries_of l.self);
  number : number_of l.self ≡ number_of l.fn.self;
  left : IsLeft l.budget (entries_of l.self) l.left;
}

abbrev pub decreases-loop-found : goal.decreases-loop-found
decreases-loop-found l =
    l.restarts.left * 3 ^ (2 * number_of l.self) + (3 ^ (2 * number_of l.self) - reached l.search)
