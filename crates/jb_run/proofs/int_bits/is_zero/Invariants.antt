-- The bit so far tests the bits of the indexes so far.
use Rattle.jb_run.proofs.BitLemmas.{ZeroSoFar}
use Rattle.jb_run.proofs.int_bits.is_zero.Given as goal

abbrev pub invariant-loop-index : goal.invariant-loop-index
invariant-loop-index l = ZeroSoFar l.fn.formula l.formula l.a l.zero l.index
