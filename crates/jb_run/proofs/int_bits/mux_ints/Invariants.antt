-- The bits so far are the gates of the indexes so far.
use Rattle.jb_run.specs.Satisfies.{IsBitBelow}
use Rattle.jb_run.specs.Gate.{AreIntsNamed, chosen, bit_at}
use Rattle.jb_run.proofs.BitLemmas.{BitsSoFar}
use Rattle.jb_run.proofs.int_bits.mux_ints.Given as goal

abbrev pub invariant-loop-i : goal.invariant-loop-i
invariant-loop-i l =
    BitsSoFar (AreIntsNamed l.fn.formula l.a l.b × IsBitBelow l.fn.formula.variables l.choice) l.fn.formula l.formula
    l.bits l.i (λ k. chosen l.choice (bit_at l.a k) (bit_at l.b k))
