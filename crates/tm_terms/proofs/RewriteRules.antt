-- Simpler operations.
use Rattle.std.proofs.Common.{◌≡◌, ℕ, ◌-◌, ◌%◌, ◌==◌, ◌<◌, List, refl, sym, ap, ◌∙◌, arith, min, max, cond}
use Rattle.std.proofs.lemmas.Bool.Decides.{nat_tests}
use Rattle.tm_terms.specs.declared.sort.Sort.TheVariants.{Bool as Truth}
use Rattle.tm_terms.specs.declared.op.TermId.{TermId}
use Rattle.tm_terms.specs.declared.op.Op.{Op}
use Rattle.tm_terms.specs.declared.op.Op.TheVariants.{Not, And, Or, If, Equal}
use Rattle.jv_list.specs.Numbers.{bit_number}
use Rattle.tm_terms.specs.Terms.{term_sort, term_value, Fits}
use Rattle.tm_terms.specs.Rules.{Replaces, HasNumber}
use Rattle.tm_terms.proofs.SameLemmas.{truth-below}

-- a choice between a bit and 0, between 1 and a bit, and between 0 and 1
both-choice : (c x : ℕ) → c < 2 → x < 2 → min c x ≡ cond (c == 0) 0 x
both-choice c x h g = grind (arith, nat_tests)

either-choice : (c x : ℕ) → c < 2 → x < 2 → max c x ≡ cond (c == 0) x 1
either-choice c x h g = grind (arith, nat_tests)

not-choice : (c : ℕ) → c < 2 → 1 - c ≡ cond (c == 0) 1 0
not-choice c h = grind (arith, nat_tests)

-- whether a bit is 0
not-zero : (x : ℕ) → x < 2 → 1 - x ≡ bit_number (x == 0)
not-zero x h = grind (arith, nat_tests)

zero-not : (x : ℕ) → x < 2 → 1 - x ≡ bit_number (0 == x)
zero-not x h = grind (arith, nat_tests)

module _ (ops : List Op) (c a b : TermId) (fits : Fits ops (If c a b)) (sort : term_sort ops a.0 ≡ Truth) where
  pub if_and : HasNumber ops b 0 → Replaces ops (If c a b) (And c a)
  if_and zero = record {
    fits = record { below = (fits.below.0, fits.below.1); sorts = (fits.sorts.0, sort) };
    sort = sym sort;
    value = λ v. rw (sort, zero.value v) (ap (λ (n : ℕ). n % 2)
        (both-choice (term_value ops v c.0) (term_value ops v a.0) (truth-below ops v c.0 fits.sorts.0)
        (truth-below ops v a.0 sort)));
    kept = refl;
  }

  pub if_or : HasNumber ops a 1 → Replaces ops (If c a b) (Or c b)
  if_or one = record {
    fits = record { below = (fits.below.0, fits.below.2); sorts = (fits.sorts.0, fits.sorts.1 ∙ sort) };
    sort = sym sort;
    value = λ v. rw (sort, one.value v) (ap (λ (n : ℕ). n % 2)
        (either-choice (term_value ops v c.0) (term_value ops v b.0) (truth-below ops v c.0 fits.sorts.0)
        (truth-below ops v b.0 (fits.sorts.1 ∙ sort))));
    kept = refl;
  }

  pub if_not : HasNumber ops a 0 → HasNumber ops b 1 → Replaces ops (If c a b) (Not c)
  if_not zero one = record {
    fits = record { below = fits.below.0; sorts = fits.sorts.0 };
    sort = sym sort;
    value = λ v. rw (sort, zero.value v, one.value v) (ap (λ (n : ℕ). n % 2)
        (not-choice (term_value ops v c.0) (truth-below ops v c.0 fits.sorts.0)));
    kept = refl;
  }

module _ (ops : List Op) (a b : TermId) (fits : Fits ops (Equal a b)) (sort : term_sort ops a.0 ≡ Truth) where
  pub equal_false : HasNumber ops b 0 → Replaces ops (Equal a b) (Not a)
  equal_false zero = record {
    fits = record { below = fits.below.0; sorts = sort };
    sort = refl;
    value = λ v. rw (zero.value v) (ap (λ (n : ℕ). n % 2)
        (not-zero (term_value ops v a.0) (truth-below ops v a.0 sort)));
    kept = refl;
  }

  pub false_equal : HasNumber ops a 0 → Replaces ops (Equal a b) (Not b)
  false_equal zero = record {
    fits = record { below = fits.below.1; sorts = fits.sorts ∙ sort };
    sort = refl;
    value = λ v. rw (zero.value v)
        (ap (λ (n : ℕ). n % 2) (zero-not (term_value ops v b.0) (truth-below ops v b.0 (fits.sorts ∙ sort))));
    kept = refl;
  }

pub ruleset if_rewrites = (if_and, if_or, if_not)

pub ruleset equal_rewrites = (equal_false, false_equal)
