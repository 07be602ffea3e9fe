use Rattle.std.proofs.Common.{take}
use Rattle.sa_core.specs.SpentLog.{all_clauses}
use Rattle.sa_core.specs.SearchView.{IsLoaded}
use Rattle.sa_core.proofs.search.Search.new.Given as goal

abbrev pub invariant-loop-entry : goal.invariant-loop-entry
invariant-loop-entry l = IsLoaded l.search l.variables (all_clauses (take l.entry-index l.entries))
