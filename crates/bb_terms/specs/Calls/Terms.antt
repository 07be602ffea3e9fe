-- What the private functions on terms ensure.
use Rattle.std.specs.Prelude.{◌≡◌, ◌≤◌, ◌⊎◌, ℕ, Bool, List, length, slice_get, Option, Some}
use Rattle.cn_clauses.specs.declared.lit.Lit.{Lit}
use Rattle.cn_clauses.specs.declared.formula.Formula.{Formula}
use Rattle.cn_clauses.specs.Satisfaction.{Satisfies}
use Rattle.cn_clauses.specs.Formulas.{clauses_of}
use Rattle.cn_clauses.specs.Extension.{Extends}
use Rattle.bb_gates.specs.Growth.{AreOf}
use Rattle.bb_arith.specs.Words.{number_of}
use Rattle.tm_terms.specs.declared.op.Op.{Op}
use Rattle.tm_terms.specs.declared.op.Operands.{Operands}
use Rattle.tm_terms.specs.declared.op.Operands.TheVariants.{Nothing, One, Two, Three}
use Rattle.tm_terms.specs.Operations.{operands_of}
use Rattle.bb_terms.specs.Tables.{HasWord, HasSome, ShowsValuation, IsTable, KeepsValuations}

-- a word of so many literals for a number that depends on the valuation that is shown
pub record IsTermWord (ops : List Op) (words : List (Option (List Lit))) (n : ℕ) (old new : Formula) (lits : List Lit)
    (number : List ℕ → ℕ) : Type 0
  where
    pub extends : Extends old new
    pub within : AreOf new lits
    pub wide : length lits ≡ n
    pub is : (w : ℕ → Bool) (v : List ℕ) → Satisfies w (clauses_of new) → ShowsValuation ops words w v
        → number_of w lits ≡ number v

-- the table has all operands
abbrev pub AreReady : List (Option (List Lit)) → Operands → Type 0
AreReady words Nothing = Unit {0}
AreReady words (One a) = HasSome words a.0
AreReady words (Two a b) = HasSome words a.0 × HasSome words b.0
AreReady words (Three a b c) = HasSome words a.0 × HasSome words b.0 × HasSome words c.0

-- the new table has the word at the place, where the old one has none, and else what the old one has
pub record PutsWord (from to : List (Option (List Lit))) (k : ℕ) (lits : List Lit) : Type 0 where
  pub here : HasWord to k lits
  pub kept : (j : ℕ) (l : List Lit) → HasWord from j l → HasWord to j l
  pub back : (j : ℕ) (l : List Lit) → HasWord to j l → ((j ≡ k) × (l ≡ lits)) ⊎ HasWord from j l

-- two tables have the same words, the second with room for no fewer
pub record HasSameWords (from to : List (Option (List Lit))) : Type 0 where
  pub there : (k : ℕ) (lits : List Lit) → HasWord from k lits → HasWord to k lits
  pub back : (k : ℕ) (lits : List Lit) → HasWord to k lits → HasWord from k lits
  pub room : length from ≤ length to

-- what each answer of a step leaves
pub record IsStep (ops : List Op) (old : Formula) (from : List (Option (List Lit))) (new : Formula)
    (to : List (Option (List Lit))) : Type 0
  where
    pub table : IsTable new ops to
    pub keeps : KeepsValuations ops old from new to
    pub room : length from ≤ length to

-- no place but one got a word
abbrev pub GetsAtMost : ℕ → List (Option (List Lit)) → List (Option (List Lit)) → Type 0
GetsAtMost k from to = (j : ℕ) (lits : List Lit) → HasWord to j lits → HasWord from j lits ⊎ (j ≡ k)

-- where the place has no word, all operands of its term have one
abbrev pub IsReadyAt : List Op → List (Option (List Lit)) → ℕ → Type 0
IsReadyAt ops words k =
    (op : Op) → (HasSome words k → ⊥) → slice_get ops k ≡ Some op → AreReady words (operands_of op)
