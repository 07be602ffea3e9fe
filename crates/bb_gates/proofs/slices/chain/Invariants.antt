-- The literals so far are conjoined.
use Rattle.std.proofs.Common.{◌*◌, ◌+◌, take}
use Rattle.cn_clauses.specs.Extension.{IsGate}
use Rattle.bb_gates.specs.Growth.{Adds}
use Rattle.bb_gates.specs.Calls.Chain.{all_signed}
use Rattle.bb_gates.proofs.slices.chain.Given as goal

abbrev pub invariant-loop-lit : goal.invariant-loop-lit
invariant-loop-lit l = record {
  gate : IsGate l.fn.formula l.formula l.result (all_signed l.sign (take (l.lit-index + 1) l.lits));
  size : Adds l.lit-index (3 * l.lit-index) l.fn.formula l.formula;
}
