-- Formulas whose assignments are the valuations that make terms true.
use Rattle.std.specs.Prelude.{◌≡◌, ◌↔◌, ◌++◌, ℕ, Bool, List, [], ◌∷◌, Option, IsTrue, Contains}
use Rattle.std.specs.List.Sorted.{IsPermutation}
use Rattle.cn_clauses.specs.declared.lit.Lit.{Lit}
use Rattle.cn_clauses.specs.declared.formula.Formula.{Formula}
use Rattle.cn_clauses.specs.Satisfaction.{clause_holds, Satisfies, Agrees}
use Rattle.cn_clauses.specs.Formulas.{variables_of, clauses_of}
use Rattle.tm_terms.specs.declared.op.Op.{Op}
use Rattle.tm_terms.specs.Terms.{term_value}
use Rattle.bb_terms.specs.Tables.{HasWord, ShowsValuation}

-- the clauses are the unit clauses of the terms, in order: that of a truth value is the word that the table has for it
abbrev pub AreUnits : List (Option (List Lit)) → List ℕ → List (List Lit) → Type 0
AreUnits words [] [] = Unit {0}
AreUnits words [] (clause ∷ clauses) = ⊥
AreUnits words (k ∷ terms) [] = ⊥
AreUnits words (k ∷ terms) (clause ∷ clauses) = HasWord words k clause × AreUnits words terms clauses

-- the clauses of the formula are gates and one unit clause for each of the terms, in any order. Each assignment that satisfies
-- the gates shows a valuation, and each valuation is shown by exactly one, on the variables of the formula; under it a unit
-- clause holds exactly where the valuation makes its term true
pub record Blasts (ops : List Op) (terms : List ℕ) (formula : Formula) : Type 0 where
  pub words : List (Option (List Lit))
  pub gates : List (List Lit)
  pub units : List (List Lit)
  pub clauses : IsPermutation (clauses_of formula) (gates ++ units)
  pub each : AreUnits words terms units
  pub shows : (w : ℕ → Bool) → Satisfies w gates → (v : List ℕ) × ShowsValuation ops words w v
  pub shown : (v : List ℕ) → (w : ℕ → Bool) × Satisfies w gates × ShowsValuation ops words w v
  pub only : (a b : ℕ → Bool) (v : List ℕ) → Satisfies a gates → Satisfies b gates → ShowsValuation ops words a v
      → ShowsValuation ops words b v → Agrees (variables_of formula) a b
  pub unit : (w : ℕ → Bool) (v : List ℕ) (k : ℕ) (clause : List Lit) → Satisfies w gates → ShowsValuation ops words w v
      → Contains terms k → HasWord words k clause → IsTrue (clause_holds w clause) ↔ (term_value ops v k ≡ 1)
