-- The bits so far are the gates of the indexes so far.
use Rattle.jb_run.specs.Gate.{AreIntsNamed, different, bit_at}
use Rattle.jb_run.proofs.BitLemmas.{BitsSoFar}
use Rattle.jb_run.proofs.int_bits.xor_ints.Given as goal

abbrev pub invariant-loop-i : goal.invariant-loop-i
invariant-loop-i l = BitsSoFar (AreIntsNamed l.fn.formula l.a l.b) l.fn.formula l.formula l.bits l.i
    (λ k. different (bit_at l.a k) (bit_at l.b k))
