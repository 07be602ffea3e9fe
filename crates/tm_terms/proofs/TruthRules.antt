-- Operations on truth values that are their operands.
use Rattle.std.proofs.Common.{◌≡◌, ℕ, ◌<◌, ◌==◌, List, Some, refl, sym, ap, ◌∙◌, arith, cond, Bool, true, false}
use Rattle.std.specs.Prelude.{slice_get}
use Rattle.std.proofs.lemmas.Grind.{common_steps}
use Rattle.tm_terms.specs.declared.sort.Sort.TheVariants.{Bool as Truth}
use Rattle.tm_terms.specs.declared.op.TermId.{TermId}
use Rattle.tm_terms.specs.declared.op.Op.{Op}
use Rattle.tm_terms.specs.declared.op.Op.TheVariants.{Not, And, Or, If, Equal}
use Rattle.jv_list.specs.Numbers.{bit_number}
use Rattle.tm_terms.specs.Terms.{term_sort, term_value, Fits, AreTerms}
use Rattle.tm_terms.specs.Rules.{IsSame, HasNumber}
use Rattle.tm_terms.proofs.SameLemmas.{same-by, truth-below, fits-stands}
use Rattle.tm_terms.proofs.MakeLemmas.{value-stands}

-- whether a bit is 1
bit-of-one : (x : ℕ) → x < 2 → bit_number (x == 1) ≡ x
bit-of-one x h = grind (arith, common_steps)

-- 1 unless it is 0
choice-of-one : (x : ℕ) → x < 2 → cond (x == 0) 0 1 ≡ x
choice-of-one x h = grind (arith, common_steps)

-- a choice between a number and itself
cond-self : (choice : Bool) (x : ℕ) → cond choice x x ≡ x
cond-self true x = refl
cond-self false x = refl

module _ (ops : List Op) (a b : TermId) where
  pub and_true : Fits ops (And a b) → HasNumber ops b 1 → IsSame ops (And a b) a
  and_true fits one = same-by ops (And a b) a fits.below.0 fits.sorts.0
      (λ v. omega (arith, one.value v, truth-below ops v a.0 fits.sorts.0))

  pub true_and : Fits ops (And a b) → HasNumber ops a 1 → IsSame ops (And a b) b
  true_and fits one = same-by ops (And a b) b fits.below.1 fits.sorts.1
      (λ v. omega (arith, one.value v, truth-below ops v b.0 fits.sorts.1))

  pub and_false : Fits ops (And a b) → HasNumber ops b 0 → IsSame ops (And a b) b
  and_false fits zero = same-by ops (And a b) b fits.below.1 fits.sorts.1 (λ v. omega (arith, zero.value v))

  pub false_and : Fits ops (And a b) → HasNumber ops a 0 → IsSame ops (And a b) a
  false_and fits zero = same-by ops (And a b) a fits.below.0 fits.sorts.0 (λ v. omega (arith, zero.value v))

  pub and_equal : Fits ops (And a b) → b ≡ a → IsSame ops (And a b) a
  and_equal fits equal = same-by ops (And a b) a fits.below.0 fits.sorts.0
      (λ v. omega (arith, ap (λ (x : TermId). term_value ops v x.0) equal))

  pub or_true : Fits ops (Or a b) → HasNumber ops b 1 → IsSame ops (Or a b) b
  or_true fits one = same-by ops (Or a b) b fits.below.1 fits.sorts.1
      (λ v. omega (arith, one.value v, truth-below ops v a.0 fits.sorts.0))

  pub true_or : Fits ops (Or a b) → HasNumber ops a 1 → IsSame ops (Or a b) a
  true_or fits one = same-by ops (Or a b) a fits.below.0 fits.sorts.0
      (λ v. omega (arith, one.value v, truth-below ops v b.0 fits.sorts.1))

  pub or_false : Fits ops (Or a b) → HasNumber ops b 0 → IsSame ops (Or a b) a
  or_false fits zero = same-by ops (Or a b) a fits.below.0 fits.sorts.0 (λ v. omega (arith, zero.value v))

  pub false_or : Fits ops (Or a b) → HasNumber ops a 0 → IsSame ops (Or a b) b
  false_or fits zero = same-by ops (Or a b) b fits.below.1 fits.sorts.1 (λ v. omega (arith, zero.value v))

  pub or_equal : Fits ops (Or a b) → b ≡ a → IsSame ops (Or a b) a
  or_equal fits equal = same-by ops (Or a b) a fits.below.0 fits.sorts.0
      (λ v. omega (arith, ap (λ (x : TermId). term_value ops v x.0) equal))

  pub equal_true : Fits ops (Equal a b) → term_sort ops a.0 ≡ Truth → HasNumber ops b 1 → IsSame ops (Equal a b) a
  equal_true fits sort one = same-by ops (Equal a b) a fits.below.0 sort
      (λ v. rw (one.value v) (bit-of-one (term_value ops v a.0) (truth-below ops v a.0 sort)))

  module _ (c : TermId) where
    pub if_true : Fits ops (If c a b) → HasNumber ops c 1 → IsSame ops (If c a b) a
    if_true fits one = same-by ops (If c a b) a fits.below.1 refl (λ v. rw (one.value v) refl)

    pub if_false : Fits ops (If c a b) → HasNumber ops c 0 → IsSame ops (If c a b) b
    if_false fits zero = same-by ops (If c a b) b fits.below.2 fits.sorts.1 (λ v. rw (zero.value v) refl)

    pub if_equal : Fits ops (If c a b) → b ≡ a → IsSame ops (If c a b) a
    if_equal fits equal = same-by ops (If c a b) a fits.below.1 refl
        (λ v. rw equal (cond-self (term_value ops v c.0 == 0) (term_value ops v a.0)))

    pub if_choice : Fits ops (If c a b) → term_sort ops a.0 ≡ Truth → HasNumber ops a 1 → HasNumber ops b 0
        → IsSame ops (If c a b) c
    if_choice fits sort one zero = same-by ops (If c a b) c fits.below.0 (fits.sorts.0 ∙ sym sort)
        (λ v. rw (one.value v, zero.value v) (choice-of-one (term_value ops v c.0)
        (truth-below ops v c.0 fits.sorts.0)))

pub not_not : (ops : List Op) (a x : TermId) → Fits ops (Not a) → AreTerms ops → slice_get ops a.0 ≡ Some (Not x)
    → IsSame ops (Not a) x
not_not ops a x fits terms e =
    let inner = fits-stands ops a.0 (Not x) terms e in
    same-by ops (Not a) x inner.below inner.sorts
    (λ v. let n = truth-below ops v x.0 inner.sorts in omega (arith, value-stands ops terms a.0 (Not x) e v refl))

pub ruleset and_rules = (and_true, true_and, and_false, false_and, and_equal)

pub ruleset or_rules = (or_true, true_or, or_false, false_or, or_equal)

pub ruleset if_rules = (if_true, if_false, if_equal, if_choice)
