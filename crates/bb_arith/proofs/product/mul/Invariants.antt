-- The product with the lower bits of the second word so far.
use Rattle.std.proofs.Common.{◌+◌, ◌*◌, ◌%◌, ◌^◌, take, false}
use Rattle.cn_clauses.specs.Extension.{Shows}
use Rattle.bb_gates.specs.Growth.{Adds}
use Rattle.bb_arith.specs.Words.{number_of, IsWordGate}
use Rattle.bb_arith.proofs.product.mul.Given as goal

abbrev pub invariant-loop-i : goal.invariant-loop-i
invariant-loop-i g l = record {
  gate : IsWordGate l.fn.formula l.formula l.product
      (λ w. (number_of w l.a * number_of w (take l.i l.b)) % 2 ^ g.row.W);
  zero : Shows l.formula l.zero (λ w. false);
  size : Adds (l.i * (3 * g.row.W + 1) + 1) (l.i * (18 * g.row.W + 1) + 1) l.fn.formula l.formula;
}
