-- The log of a solver: the clauses that were added and learned, in order, and what is promised of each learned one.
use Rattle.std.specs.Prelude.{◌≡◌, ◌==◌, ℕ, Bool, true, false, not, count_by, List, [], ◌∷◌, map, take, filter, slice_get, Some, Contains}
use Rattle.cn_clauses.specs.declared.lit.Lit.{Lit}
use Rattle.cn_clauses.specs.declared.clause.Clause.{Clause}
use Rattle.cn_clauses.specs.Literals.{opposite_of}
use Rattle.cn_clauses.specs.Satisfaction.{Follows, IsClauseBelow}
use Rattle.cn_clauses.specs.Propagation.{IsForced, opposites_of, Rup}
use Rattle.sa_core.specs.declared.log.LogEntry.{LogEntry}
use Rattle.sa_core.specs.declared.log.LogEntry.TheVariants.{Added, Learned}

-- the literals of an entry's clause
abbrev pub entry_lits : LogEntry → List Lit
entry_lits (Added clause) = clause.lits
entry_lits (Learned clause) = clause.lits

-- the clauses of a log, in order
abbrev pub all_clauses : List LogEntry → List (List Lit)
all_clauses entries = map entry_lits entries

-- the clauses that were added, in order
abbrev pub added_clauses : List LogEntry → List (List Lit)
added_clauses [] = []
added_clauses (Added clause ∷ entries) = clause.lits ∷ added_clauses entries
added_clauses (Learned clause ∷ entries) = added_clauses entries

-- whether the clause of an entry was learned
abbrev pub is_learned : LogEntry → Bool
is_learned (Added clause) = false
is_learned (Learned clause) = true

-- how many clauses were learned
abbrev pub learned_count : List LogEntry → ℕ
learned_count entries = count_by is_learned entries

-- the literals of a clause without one of them
abbrev pub others_of : Lit → List Lit → List Lit
others_of lit lits = filter (λ (other : Lit). not (other.0 == lit.0)) lits

-- unit propagation from the opposites of a clause's other literals gives neither the literal nor two opposite ones
pub record IsNewBy (clauses : List (List Lit)) (lits : List Lit) (lit : Lit) : Type 0 where
  pub within : Contains lits lit
  pub unforced : IsForced clauses (opposites_of (others_of lit lits)) lit → ⊥
  pub apart : (other : Lit) → IsForced clauses (opposites_of (others_of lit lits)) other
      → IsForced clauses (opposites_of (others_of lit lits)) (opposite_of other) → ⊥

-- a clause is new to unit propagation: it is by some literal of it
abbrev pub IsNew : List (List Lit) → List Lit → Type 0
IsNew clauses lits = (lit : Lit) × IsNewBy clauses lits lit

-- what is promised of a clause that is learned after the entries before it, over so many variables
pub record IsLearnable (variables : ℕ) (before : List LogEntry) (lits : List Lit) : Type 0 where
  pub some : lits ≡ [] → ⊥
  pub below : IsClauseBelow variables lits
  pub apart : (lit : Lit) → Contains lits lit → Contains lits (opposite_of lit) → ⊥
  pub follows : Follows (added_clauses before) lits
  pub new : IsNew (all_clauses before) lits
  pub rup : Rup (all_clauses before) lits

-- each learned clause is learnable after those before it
abbrev pub AreLearnable : ℕ → List LogEntry → Type 0
AreLearnable variables entries =
    (place : ℕ) (clause : Clause) → slice_get entries place ≡ Some (Learned clause)
    → IsLearnable variables (take place entries) clause.lits

-- the log's added clauses are these, it has so many learned clauses, and each of them is learnable
pub record SpentLog (variables : ℕ) (clauses : List (List Lit)) (entries : List LogEntry) (count : ℕ) : Type 0 where
  pub added : added_clauses entries ≡ clauses
  pub number : learned_count entries ≡ count
  pub learnable : ∥ AreLearnable variables entries ∥₁
