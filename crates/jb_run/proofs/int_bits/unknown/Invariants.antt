-- The bits so far are fresh.
use Rattle.jb_run.proofs.FreshIntLemmas.{FreshSoFar}
use Rattle.jb_run.proofs.int_bits.unknown.Given as goal

abbrev pub invariant-loop-i : goal.invariant-loop-i
invariant-loop-i l = FreshSoFar l.fn.formula l.formula l.bits l.i
