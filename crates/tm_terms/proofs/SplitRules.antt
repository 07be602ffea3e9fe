-- A truth value that two others split.
use Rattle.std.proofs.Common.{◌≡◌, List, Some, refl, arith}
use Rattle.std.specs.Prelude.{slice_get}
use Rattle.tm_terms.specs.declared.op.TermId.{TermId}
use Rattle.tm_terms.specs.declared.op.Op.{Op}
use Rattle.tm_terms.specs.declared.op.Op.TheVariants.{And, Or}
use Rattle.tm_terms.specs.Terms.{Fits, AreTerms}
use Rattle.tm_terms.specs.Rules.{IsSame, IsBoth, IsSplit, AreOpposite}
use Rattle.tm_terms.proofs.SameLemmas.{same-by, truth-below, fits-stands}
use Rattle.tm_terms.proofs.MakeLemmas.{value-stands}

module _ (ops : List Op) (terms : AreTerms ops) (k : TermId) (x y : TermId) where
  pub both_parts : slice_get ops k.0 ≡ Some (And x y) → IsBoth ops k x y
  both_parts e = let f = fits-stands ops k.0 (And x y) terms e in record {
    first = f.below.0;
    second = f.below.1;
    sort = f.sorts.0;
    other = f.sorts.1;
    value = λ v. omega (
      arith,
      value-stands ops terms k.0 (And x y) e v refl,
      truth-below ops v x.0 f.sorts.0,
      truth-below ops v y.0 f.sorts.1,
    );
  }

  pub parts_both : slice_get ops k.0 ≡ Some (And x y) → IsBoth ops k y x
  parts_both e = let p = both_parts e in record {
    first = p.second;
    second = p.first;
    sort = p.other;
    other = p.sort;
    value = λ v. omega (arith, p.value v);
  }

-- the conjunctions of a truth value with another and with its opposite
pub split_by_opposites : (ops : List Op) (a b g c d : TermId) → IsBoth ops a g c → IsBoth ops b g d →
    AreOpposite ops c d
    → IsSplit ops a b g
split_by_opposites ops a b g c d p q o = record {
  within = p.first;
  sort = p.sort;
  value = λ v. omega (
    arith,
    p.value v,
    q.value v,
    o.value v,
    truth-below ops v g.0 p.sort,
    truth-below ops v
        c.0 p.other,
  );
}

pub or_split : (ops : List Op) (a b g : TermId) → Fits ops (Or a b) → IsSplit ops a b g → IsSame ops (Or a b) g
or_split ops a b g fits s = same-by ops (Or a b) g s.within s.sort s.value
