-- What was found in the clauses so far.
use Rattle.std.proofs.Common.{take}
use Rattle.jb_run.specs.Solved.{Passes}
use Rattle.jb_run.proofs.solver.Search.pass.Given as goal

abbrev pub invariant-loop-clause : goal.invariant-loop-clause
invariant-loop-clause l = Passes l.fn.self l.self (take l.clause-index l.clauses) l.found
