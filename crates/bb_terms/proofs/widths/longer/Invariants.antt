-- The word so far, with the literal in some further places.
use Rattle.std.proofs.Common.{◌≡◌, ◌≤◌, ◌+◌, ◌-◌, ◌*◌, ◌^◌, [], ◌∷◌, ℕ, Bool, length}
use Rattle.cn_clauses.specs.declared.formula.Formula.{Formula}
use Rattle.cn_clauses.specs.Literals.{lit_value}
use Rattle.bb_gates.specs.Growth.{AreOf}
use Rattle.bb_arith.specs.Words.{number_of}
use Rattle.jv_list.specs.Numbers.{bit_number}
use Rattle.bb_terms.proofs.widths.longer.Given as goal

abbrev pub invariant-loop-fill : goal.invariant-loop-fill
invariant-loop-fill l = record {
  fits : length l.made ≤ l.fn.width;
  within : (f : Formula) → AreOf f l.lits → AreOf f (l.fn.fill ∷ []) → AreOf f l.made;
  value : (w : ℕ → Bool) → number_of w l.made + bit_number (lit_value w l.fn.fill) * 2 ^ length l.lits
      ≡ number_of w l.lits + bit_number (lit_value w l.fn.fill) * 2 ^ length l.made;
}

abbrev pub decreases-loop-fill : goal.decreases-loop-fill
decreases-loop-fill l = l.fn.width - length l.made
