-- What the type of a solver keeps of its log.
use Rattle.std.specs.Prelude.{◌≡◌, ℕ, Bool, List, ◌∷◌, ◌++◌, [], map, max, ◌+◌}
use Rattle.cn_clauses.specs.declared.lit.Lit.{Lit}
use Rattle.cn_clauses.specs.declared.clause.Clause.{Clause}
use Rattle.cn_clauses.specs.Literals.{variable_of}
use Rattle.cn_clauses.specs.Satisfaction.{Satisfies}
use Rattle.sa_core.specs.declared.log.LogEntry.{LogEntry}
use Rattle.sa_core.specs.declared.log.LogEntry.TheVariants.{Added, Learned}
use Rattle.sa_core.specs.SpentLog.{all_clauses, added_clauses}

-- an assignment that satisfies the added clauses satisfies all
abbrev pub LearnedHold : List LogEntry → Type 0
LearnedHold entries = (a : ℕ → Bool) → Satisfies a (added_clauses entries) → Satisfies a (all_clauses entries)

-- the entries of clauses that are added
abbrev pub added_all : List Clause → List LogEntry
added_all clauses = map Added clauses

-- the number of variables that a clause brings to
abbrev pub variables_with : ℕ → List Lit → ℕ
variables_with variables [] = variables
variables_with variables (lit ∷ lits) = variables_with (max variables (variable_of lit + 1)) lits

-- the log grew by learned clauses alone
pub record Learns (old new : List LogEntry) : Type 0 where
  pub more : List Clause
  pub entries : new ≡ old ++ map Learned more

-- by one clause of these literals
pub record LearnsOne (old new : List LogEntry) (lits : List Lit) : Type 0 where
  pub clause : Clause
  pub same : clause.lits ≡ lits
  pub entries : new ≡ old ++ Learned clause ∷ []
