-- Conjunctions and disjunctions of truth values of which one implies the other, or which split another.
use Rattle.std.proofs.Common.{◌≡◌, List, Some, refl, arith}
use Rattle.std.specs.Prelude.{slice_get}
use Rattle.tm_terms.specs.declared.op.TermId.{TermId}
use Rattle.tm_terms.specs.declared.op.Op.{Op}
use Rattle.tm_terms.specs.declared.op.Op.TheVariants.{And, Or}
use Rattle.tm_terms.specs.Terms.{Fits, AreTerms}
use Rattle.tm_terms.specs.Rules.{IsSame, Implies}
use Rattle.tm_terms.proofs.SameLemmas.{same-by, truth-below, fits-stands}
use Rattle.tm_terms.proofs.MakeLemmas.{value-stands}

-- a conjunction implies its parts, and the parts of a disjunction imply it
module _ (ops : List Op) (terms : AreTerms ops) (k : TermId) (x y : TermId) where
  pub implies_first : slice_get ops k.0 ≡ Some (And x y) → Implies ops k x
  implies_first e = let f = fits-stands ops k.0 (And x y) terms e in record {
    value = λ v.
        omega (
          arith,
          value-stands ops terms k.0 (And x y) e v refl,
          truth-below ops v x.0 f.sorts.0,
          truth-below ops v y.0 f.sorts.1,
        );
  }

  pub implies_second : slice_get ops k.0 ≡ Some (And x y) → Implies ops k y
  implies_second e = let f = fits-stands ops k.0 (And x y) terms e in record {
    value = λ v.
        omega (
          arith,
          value-stands ops terms k.0 (And x y) e v refl,
          truth-below ops v x.0 f.sorts.0,
          truth-below ops v y.0 f.sorts.1,
        );
  }

  pub first_implies : slice_get ops k.0 ≡ Some (Or x y) → Implies ops x k
  first_implies e = let f = fits-stands ops k.0 (Or x y) terms e in record {
    value = λ v.
        omega (
          arith,
          value-stands ops terms k.0 (Or x y) e v refl,
          truth-below ops v x.0 f.sorts.0,
          truth-below
              ops v y.0 f.sorts.1,
        );
  }

  pub second_implies : slice_get ops k.0 ≡ Some (Or x y) → Implies ops y k
  second_implies e = let f = fits-stands ops k.0 (Or x y) terms e in record {
    value = λ v.
        omega (
          arith,
          value-stands ops terms k.0 (Or x y) e v refl,
          truth-below ops v x.0 f.sorts.0,
          truth-below
              ops v y.0 f.sorts.1,
        );
  }

module _ (ops : List Op) (a b : TermId) where
  pub and_implied : Fits ops (And a b) → Implies ops b a → IsSame ops (And a b) b
  and_implied fits i = same-by ops (And a b) b fits.below.1 fits.sorts.1 (λ v. omega (arith, i.value v))

  pub and_implies : Fits ops (And a b) → Implies ops a b → IsSame ops (And a b) a
  and_implies fits i = same-by ops (And a b) a fits.below.0 fits.sorts.0 (λ v. omega (arith, i.value v))

  pub or_implied : Fits ops (Or a b) → Implies ops b a → IsSame ops (Or a b) a
  or_implied fits i = same-by ops (Or a b) a fits.below.0 fits.sorts.0 (λ v. omega (arith, i.value v))

  pub or_implies : Fits ops (Or a b) → Implies ops a b → IsSame ops (Or a b) b
  or_implies fits i = same-by ops (Or a b) b fits.below.1 fits.sorts.1 (λ v. omega (arith, i.value v))

pub ruleset implied_rules = (and_implied, and_implies, or_implied, or_implies)
