-- The order of the lower bits so far.
use Rattle.std.proofs.Common.{◌+◌, ◌*◌, take}
use Rattle.std.specs.Prelude.{nat_lt}
use Rattle.cn_clauses.specs.Extension.{IsGate}
use Rattle.bb_gates.specs.Growth.{Adds}
use Rattle.bb_arith.specs.Words.{number_of}
use Rattle.bb_arith.proofs.order.below.Given as goal

abbrev pub invariant-loop-i : goal.invariant-loop-i
invariant-loop-i g l = record {
  gate : IsGate l.fn.formula l.formula l.less
      (λ w. nat_lt (number_of w (take l.i l.a)) (number_of w (take l.i l.b)));
  size : Adds (l.i + 1) (6 * l.i + 1) l.fn.formula l.formula;
}
