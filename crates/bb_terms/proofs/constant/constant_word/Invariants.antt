-- The lower bits are there.
use Rattle.std.proofs.Common.{◌%◌, ◌^◌}
use Rattle.bb_terms.specs.Calls.Words.{IsWord}
use Rattle.bb_terms.proofs.constant.constant_word.Given as goal

abbrev pub invariant-loop-i : goal.invariant-loop-i
invariant-loop-i l = IsWord l.i l.fn.formula l.formula l.lits (λ w. l.fn.number % 2 ^ l.i)
