-- The lower literals are chosen.
use Rattle.std.proofs.Common.{◌≡◌, ◌*◌, length, take}
use Rattle.bb_gates.specs.Growth.{Adds}
use Rattle.bb_arith.specs.Words.{IsWordGate}
use Rattle.bb_arith.proofs.ChoiceLemmas.{chosen_number}
use Rattle.bb_arith.proofs.choice.choose.Given as goal

abbrev pub invariant-loop-i : goal.invariant-loop-i
invariant-loop-i g l = record {
  gate : IsWordGate l.fn.formula l.formula (take l.i l.made) (chosen_number l.choice (take l.i l.a) (take l.i l.b));
  width : length l.made ≡ length l.a;
  size : Adds l.i (4 * l.i) l.fn.formula l.formula;
}
