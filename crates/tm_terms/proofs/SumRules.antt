-- Sums, differences and products that are their operands.
use Rattle.std.proofs.Common.{◌^◌, List, refl, sym, ◌∙◌, arith}
use Rattle.std.proofs.Math.Nat.{mod-eq_of_lt, add-mod_right, sub-zero}
use Rattle.tm_terms.specs.declared.op.TermId.{TermId}
use Rattle.tm_terms.specs.declared.op.Op.{Op}
use Rattle.tm_terms.specs.declared.op.Op.TheVariants.{Add, Sub, Mul}
use Rattle.tm_terms.specs.Words.{width_of}
use Rattle.tm_terms.specs.Terms.{term_sort, term_value, Fits}
use Rattle.tm_terms.specs.Rules.{IsSame, HasNumber}
use Rattle.tm_terms.proofs.SameLemmas.{same-by}
use Rattle.tm_terms.proofs.TermLemmas.{value-below}

module _ (ops : List Op) (a b : TermId) where
  pub add_zero : Fits ops (Add a b) → HasNumber ops b 0 → IsSame ops (Add a b) a
  add_zero fits zero = same-by ops (Add a b) a fits.below.0 refl (λ v. omega (arith, zero.value v))

  pub zero_add : Fits ops (Add a b) → HasNumber ops a 0 → IsSame ops (Add a b) b
  zero_add fits zero = same-by ops (Add a b) b fits.below.1 fits.sorts (λ v. omega (arith, zero.value v))

  pub sub_zero : Fits ops (Sub a b) → HasNumber ops b 0 → IsSame ops (Sub a b) a
  sub_zero fits zero = record {
    within = fits.below.0;
    sort = refl;
    value = λ v. rw (zero.value v, sub-zero (2 ^ width_of (term_sort ops a.0)))
        (sym (add-mod_right (term_value ops v a.0) (2 ^ width_of (term_sort ops a.0)) ∙ mod-eq_of_lt
        (value-below ops v a.0)));
  }

  pub mul_zero : Fits ops (Mul a b) → HasNumber ops b 0 → IsSame ops (Mul a b) b
  mul_zero fits zero = same-by ops (Mul a b) b fits.below.1 fits.sorts (λ v. rw (zero.value v) (omega arith))

  pub zero_mul : Fits ops (Mul a b) → HasNumber ops a 0 → IsSame ops (Mul a b) a
  zero_mul fits zero = same-by ops (Mul a b) a fits.below.0 refl (λ v. rw (zero.value v) (omega arith))

  pub mul_one : Fits ops (Mul a b) → HasNumber ops b 1 → IsSame ops (Mul a b) a
  mul_one fits one = same-by ops (Mul a b) a fits.below.0 refl (λ v. rw (one.value v) (omega arith))

  pub one_mul : Fits ops (Mul a b) → HasNumber ops a 1 → IsSame ops (Mul a b) b
  one_mul fits one = same-by ops (Mul a b) b fits.below.1 fits.sorts (λ v. rw (one.value v) (omega arith))

pub ruleset add_rules = (add_zero, zero_add)

pub ruleset mul_rules = (mul_zero, zero_mul, mul_one, one_mul)
