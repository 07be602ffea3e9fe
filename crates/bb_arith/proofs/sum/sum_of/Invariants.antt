-- The lower bits of the sum so far.
use Rattle.std.proofs.Common.{◌≡◌, ◌+◌, ◌*◌, length}
use Rattle.bb_gates.specs.Growth.{Adds}
use Rattle.bb_arith.specs.Sums.{IsSumSoFar}
use Rattle.bb_arith.proofs.sum.sum_of.Given as goal

abbrev pub invariant-loop-i : goal.invariant-loop-i
invariant-loop-i g l = record {
  sum : IsSumSoFar l.i l.fn.formula l.formula l.a l.b l.sum l.one l.carry;
  width : length l.sum ≡ length l.a;
  size : Adds (2 * l.i + 1) (14 * l.i + 1) l.fn.formula l.formula;
}
