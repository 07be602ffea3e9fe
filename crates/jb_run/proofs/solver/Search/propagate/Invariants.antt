-- Each pass that changes something leaves fewer variables without a value.
use Rattle.jb_run.specs.Solved.{Adds, unset_count}
use Rattle.jb_run.proofs.solver.Search.propagate.Given as goal

abbrev pub invariant-loop : goal.invariant-loop
invariant-loop l = Adds l.fn.self l.self l.clauses

abbrev pub decreases-loop : goal.decreases-loop
decreases-loop l = unset_count l.self.values.items
