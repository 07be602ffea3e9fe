-- The bits so far are those of the pattern.
use Rattle.jb_run.proofs.FreshIntLemmas.{KnownSoFar}
use Rattle.jb_run.proofs.int_bits.known.Given as goal

abbrev pub invariant-loop-i : goal.invariant-loop-i
invariant-loop-i l = KnownSoFar l.pattern l.bits l.i
