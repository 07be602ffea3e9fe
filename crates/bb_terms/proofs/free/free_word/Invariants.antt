-- So many fresh literals.
use Rattle.std.proofs.Common.{◌≤◌, ◌-◌, length}
use Rattle.cn_clauses.specs.Extension.{Grows}
use Rattle.bb_gates.specs.Growth.{IsConservative}
use Rattle.bb_terms.proofs.free.free_word.Given as goal

abbrev pub invariant-loop-formula : goal.invariant-loop-formula
invariant-loop-formula l = record {
  grows : Grows l.fn.formula l.formula l.lits;
  fits : length l.lits ≤ l.fn.width;
  keeps : IsConservative l.fn.formula l.formula;
}

abbrev pub decreases-loop-formula : goal.decreases-loop-formula
decreases-loop-formula l = l.fn.width - length l.lits
