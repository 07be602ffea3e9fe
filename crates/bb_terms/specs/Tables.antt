-- The literals of terms, and the valuations that assignments show by them. A table has a word for some places of a bank.
use Rattle.std.specs.Prelude.{◌≡◌, ◌<◌, ℕ, Bool, List, length, slice_get, Option, Some}
use Rattle.cn_clauses.specs.declared.lit.Lit.{Lit}
use Rattle.cn_clauses.specs.declared.formula.Formula.{Formula}
use Rattle.cn_clauses.specs.Satisfaction.{Satisfies, Agrees}
use Rattle.cn_clauses.specs.Formulas.{variables_of, clauses_of}
use Rattle.cn_clauses.specs.Extension.{Continues, IsExtension}
use Rattle.bb_gates.specs.Growth.{AreOf}
use Rattle.bb_arith.specs.Words.{number_of}
use Rattle.tm_terms.specs.declared.op.Op.{Op}
use Rattle.tm_terms.specs.declared.op.Op.TheVariants.{Free}
use Rattle.tm_terms.specs.declared.sort.Sort.{Sort}
use Rattle.tm_terms.specs.Words.{width_of}
use Rattle.tm_terms.specs.Terms.{term_sort, term_value}

-- the table has these literals for the term at a place, the lowest bit first
abbrev pub HasWord : List (Option (List Lit)) → ℕ → List Lit → Type 0
HasWord words k lits = slice_get words k ≡ Some (Some lits)

-- it has some
abbrev pub HasSome : List (Option (List Lit)) → ℕ → Type 0
HasSome words k = (lits : List Lit) × HasWord words k lits

-- the assignment shows the valuation: the literals of each free term that the table has are the bits of its value
abbrev pub ShowsValuation : List Op → List (Option (List Lit)) → (ℕ → Bool) → List ℕ → Type 0
ShowsValuation ops words w v =
    (k : ℕ) (s : Sort) (lits : List Lit) → slice_get ops k ≡ Some (Free s) → HasWord words k lits
    → number_of w lits ≡ term_value ops v k

-- the table has literals of the formula for terms of the bank, as many as the term's sort has bits; wherever the formula is
-- satisfied, they are the bits of the term's value under each valuation that is shown
pub record IsTable (formula : Formula) (ops : List Op) (words : List (Option (List Lit))) : Type 0 where
  pub placed : (k : ℕ) (lits : List Lit) → HasWord words k lits → k < length ops
  pub wide : (k : ℕ) (lits : List Lit) → HasWord words k lits → length lits ≡ width_of (term_sort ops k)
  pub within : (k : ℕ) (lits : List Lit) → HasWord words k lits → AreOf formula lits
  pub values : (k : ℕ) (lits : List Lit) (w : ℕ → Bool) (v : List ℕ) → HasWord words k lits
      → Satisfies w (clauses_of formula) → ShowsValuation ops words w v → number_of w lits ≡ term_value ops v k

-- the new formula continues the old one, the new table has what the old one has, and each assignment that satisfies the
-- old formula and shows a valuation extends to one that satisfies the new formula and shows it
pub record KeepsValuations (ops : List Op) (old : Formula) (from : List (Option (List Lit))) (new : Formula)
    (to : List (Option (List Lit))) : Type 0
  where
    pub continues : Continues old new
    pub words : (k : ℕ) (lits : List Lit) → HasWord from k lits → HasWord to k lits
    pub extends : (a : ℕ → Bool) (v : List ℕ) → Satisfies a (clauses_of old) → ShowsValuation ops from a v
        → (b : ℕ → Bool) × IsExtension old new a b × ShowsValuation ops to b v

-- and only one does, on the variables of the new formula
pub record ExtendsOnce (ops : List Op) (old : Formula) (from : List (Option (List Lit))) (new : Formula)
    (to : List (Option (List Lit))) : Type 0
  where
    pub keeps : KeepsValuations ops old from new to
    pub only : (a b : ℕ → Bool) (v : List ℕ) → Satisfies a (clauses_of new) → Satisfies b (clauses_of new)
        → Agrees (variables_of old) a b → ShowsValuation ops to a v → ShowsValuation ops to b v
        → Agrees (variables_of new) a b

-- each valuation is shown by exactly one assignment to the variables of the formula that satisfies it
pub record IsExact (formula : Formula) (ops : List Op) (words : List (Option (List Lit))) : Type 0 where
  pub shown : (v : List ℕ) → (a : ℕ → Bool) × Satisfies a (clauses_of formula) × ShowsValuation ops words a v
  pub only : (a b : ℕ → Bool) (v : List ℕ) → Satisfies a (clauses_of formula) → Satisfies b (clauses_of formula)
      → ShowsValuation ops words a v → ShowsValuation ops words b v → Agrees (variables_of formula) a b
