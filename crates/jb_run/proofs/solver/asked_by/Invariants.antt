-- The literals so far are false but for one.
use Rattle.std.proofs.Common.{take}
use Rattle.jb_run.proofs.ClauseLemmas.{AreFalseBut}
use Rattle.jb_run.proofs.solver.asked_by.Given as goal

abbrev pub invariant-loop-lit : goal.invariant-loop-lit
invariant-loop-lit l = AreFalseBut l.values (take l.lit-index l.clause.lits.items) l.«open»
