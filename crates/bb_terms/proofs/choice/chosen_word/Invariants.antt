-- The lower bits are chosen.
use Rattle.std.proofs.Common.{take}
use Rattle.bb_terms.specs.Calls.Words.{IsWord, chosen_number}
use Rattle.bb_terms.proofs.choice.chosen_word.Given as goal

abbrev pub invariant-loop-i : goal.invariant-loop-i
invariant-loop-i l = IsWord l.i l.fn.formula l.formula l.lits (chosen_number l.fn.choice (take l.i l.a) (take l.i l.b))
