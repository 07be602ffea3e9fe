-- What the answer of a solver says of the clauses that were added.
use Rattle.std.specs.Prelude.{◌≡◌, ◌≢◌, ◌⊎◌, ◌+◌, ◌≤◌, ℕ, Bool, List, [], length}
use Rattle.cn_clauses.specs.declared.lit.Lit.{Lit}
use Rattle.cn_clauses.specs.Satisfaction.{Satisfies}
use Rattle.cn_clauses.specs.Propagation.{Rup}
use Rattle.cn_clauses.specs.Formulas.{value_at}
use Rattle.sa_core.specs.declared.log.LogEntry.{LogEntry}
use Rattle.sa_core.specs.declared.solver.Solved.{Solved}
use Rattle.sa_core.specs.declared.solver.Solved.TheVariants.{Sat, Unsat, Spent, NoMemory}
use Rattle.sa_core.specs.SpentLog.{all_clauses, learned_count, SpentLog}

-- no assignment satisfies the clauses, and unit propagation over the whole log finds that
pub record IsRefuted (clauses : List (List Lit)) (entries : List LogEntry) : Type 0 where
  pub none : (a : ℕ → Bool) → Satisfies a clauses → ⊥
  pub rup : Rup (all_clauses entries) []

-- what an answer says, by the variables, the clauses that were added, the log that it leaves, and the budget
abbrev pub IsAnswered : ℕ → List (List Lit) → List LogEntry → ℕ → Solved → Type 0
IsAnswered variables clauses entries budget (Sat a) =
    (length a.values ≡ variables) × Satisfies (value_at a.values) clauses
IsAnswered variables clauses entries budget Unsat = IsRefuted clauses entries
IsAnswered variables clauses entries budget Spent = (budget ≢ 0) × SpentLog variables clauses entries budget
IsAnswered variables clauses entries budget NoMemory = Unit {0}

-- no more clauses were learned than a budget allows; budget 0 allows any number
abbrev pub IsWithinBudget : ℕ → List LogEntry → Type 0
IsWithinBudget budget entries = (budget ≡ 0) ⊎ (learned_count entries ≤ budget)

-- and so many more are allowed
abbrev pub IsLeft : ℕ → List LogEntry → ℕ → Type 0
IsLeft budget entries left = (budget ≡ 0) ⊎ (left + learned_count entries ≡ budget)
