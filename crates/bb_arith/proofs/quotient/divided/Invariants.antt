-- The upper bits are divided.
use Rattle.std.proofs.Common.{◌≡◌, ◌+◌, ◌-◌, ◌*◌, length}
use Rattle.bb_gates.specs.Growth.{Adds}
use Rattle.bb_arith.specs.Calls.Division.{IsDivided}
use Rattle.bb_arith.proofs.quotient.divided.Given as goal

abbrev pub invariant-loop-k : goal.invariant-loop-k
invariant-loop-k g l = record {
  divided : IsDivided (g.row.W - l.k) g.row.W l.fn.formula l.formula l.word l.divisor l.quotient l.rest;
  width : length l.quotient ≡ g.row.W;
  size : Adds (l.k * (4 * g.row.W + 2) + 1) (l.k * (24 * g.row.W + 2) + 1) l.fn.formula l.formula;
}
