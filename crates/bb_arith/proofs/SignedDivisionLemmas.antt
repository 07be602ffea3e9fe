-- The division of signed words, from that of their magnitudes.
use Rattle.std.proofs.Common.{◌≡◌, ◌<◌, ◌-◌, ℕ, List, length, get_or, ◌∙◌}
use Rattle.cn_clauses.specs.declared.lit.Lit.{Lit}
use Rattle.cn_clauses.specs.declared.formula.Formula.{Formula}
use Rattle.cn_clauses.specs.Extension.{Extends, IsGate}
use Rattle.cn_clauses.specs.Laws.{ExtendsThrough}
use Rattle.bb_gates.specs.Values.{differ, of_two, any_of}
use Rattle.bb_gates.specs.Growth.{IsConservative}
use Rattle.bb_gates.specs.Laws.{ConservativeThrough}
use Rattle.bb_arith.specs.Words.{signed_of, IsWordGate}
use Rattle.jv_list.specs.Numbers.{wrapped_number}
use Rattle.jv_list.specs.Numbers.{quotient_of, remainder_of}
use Rattle.bb_arith.specs.Calls.Division.{turned_number, turned_or_zero, IsDivision}
use Rattle.bb_arith.proofs.WordLemmas.{word_grown}
use Rattle.bb_arith.proofs.QuotientLemmas.{quotient_answer, remainder_answer}

-- the magnitudes are divided, the divisor is tested and the signs are compared; then both answers are turned
module _ (through : ExtendsThrough) (n : ℕ) (old first second third fourth new : Formula) (a b : List Lit)
    (d some sign : Lit) (q r quotient remainder : List Lit) (len_a : length a ≡ n) (len_b : length b ≡ n)
    (wide : 0 < n)
    (parts : IsDivision n old first (turned_number n (get_or a (n - 1) d) a) (turned_number n (get_or b (n - 1) d) b)
    q r)
    (any : IsGate first second some (any_of b))
    (signs : IsGate second third sign (of_two differ (get_or a (n - 1) d) (get_or b (n - 1) d)))
    (one : IsWordGate third fourth quotient (turned_or_zero n some sign q))
    (two : IsWordGate fourth new remainder (turned_or_zero n some (get_or a (n - 1) d) r)) where
  all_extend : Extends old new
  all_extend =
      through old third new
      (through old second third (through old first second parts.extends any.extends) signs.extends)
      (through third fourth new one.extends two.extends)

  pub signed_quotient : IsWordGate old new quotient
      (λ w. wrapped_number n (quotient_of (signed_of w a) (signed_of w b)))
  signed_quotient = record {
    extends = all_extend;
    within = word_grown fourth new quotient two.extends.continues.grows one.within;
    is = λ w h.
        let k = two.extends.keeps w h in
        let l = one.extends.keeps w k in
        let m = signs.extends.keeps w l in
        one.is w k
        ∙ quotient_answer w a b n d some q len_a len_b wide (any.shows.is w m) sign (signs.shows.is w l)
        (λ half lt. parts.quotient_is w (any.extends.keeps w m) half lt);
  }

  pub signed_remainder : IsWordGate old new remainder
      (λ w. wrapped_number n (remainder_of (signed_of w a) (signed_of w b)))
  signed_remainder = record {
    extends = all_extend;
    within = two.within;
    is = λ w h.
        let m = signs.extends.keeps w (one.extends.keeps w (two.extends.keeps w h)) in
        two.is w h
        ∙ remainder_answer w a b n d some r len_a len_b wide (any.shows.is w m)
        (λ half. parts.rest_is w (any.extends.keeps w m) half);
  }

-- what the five steps keep
pub keeps_five : ConservativeThrough → (old first second third fourth new : Formula) → IsConservative old first
    → IsConservative first second → IsConservative second third → IsConservative third fourth
    → IsConservative fourth new → IsConservative old new
keeps_five through old first second third fourth new one two three four five =
    through old fourth new
    (through old third fourth (through old second third (through old first second one two) three) four) five
