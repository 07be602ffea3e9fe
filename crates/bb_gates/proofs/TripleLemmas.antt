-- Three operands of which two are equal or opposite, turned.
use Rattle.std.proofs.Common.{Option, Some, None, IfSome, ◌∙◌}
use Rattle.cn_clauses.specs.declared.lit.Lit.{Lit}
use Rattle.cn_clauses.specs.Literals.{lit_value}
use Rattle.bb_gates.specs.declared.triple.Pair.{Pair}
use Rattle.bb_gates.specs.Calls.Triple.{IsPair}
use Rattle.bb_gates.proofs.ValueLemmas.{parity_turned, majority_turned}

-- the same three, turned
pair_turned : (a b c : Lit) (pair : Pair) → IsPair b c a pair → IsPair a b c pair
pair_turned a b c pair is = record {
  within = λ n below. is.within n (below.1.0, (below.1.1.0, (below.0, tt)));
  sum = λ w. parity_turned (lit_value w a) (lit_value w b) (lit_value w c) ∙ is.sum w;
  carry = λ w. majority_turned (lit_value w a) (lit_value w b) (lit_value w c) ∙ is.carry w;
}

pub found_turned : (r : Option Pair) (a b c : Lit) → IfSome r (λ pair. IsPair b c a pair)
    → IfSome r (λ pair. IsPair a b c pair)
found_turned (Some pair) a b c is = pair_turned a b c pair is
found_turned None a b c is = tt
