-- The lower bits are joined.
use Rattle.std.proofs.Common.{take}
use Rattle.bb_arith.specs.Words.{number_of}
use Rattle.bb_terms.specs.Calls.Words.{IsWord, bits_number}
use Rattle.bb_terms.proofs.bits.bitwise.Given as goal

abbrev pub invariant-loop-i : goal.invariant-loop-i
invariant-loop-i l = IsWord l.i l.fn.formula l.formula l.lits
    (λ w. bits_number l.fn.kind (number_of w (take l.i l.a)) (number_of w (take l.i l.b)))
