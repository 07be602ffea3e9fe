-- Which assignments satisfy a list of clauses, each a list of literals, and what follows from it.
use Rattle.std.specs.Prelude.{◌≡◌, ◌<◌, ℕ, Bool, List, IsTrue}
use Rattle.std.specs.List.{list_any, list_all, AllByRecursion}
use Rattle.cn_clauses.specs.declared.lit.Lit.{Lit}
use Rattle.cn_clauses.specs.Literals.{variable_of, lit_value}

-- whether some literal of a clause is true
abbrev pub clause_holds : (ℕ → Bool) → List Lit → Bool
clause_holds a lits = list_any (lit_value a) lits

-- whether each clause holds
abbrev pub all_hold : (ℕ → Bool) → List (List Lit) → Bool
all_hold a clauses = list_all (clause_holds a) clauses

-- the assignment satisfies each clause
abbrev pub Satisfies : (ℕ → Bool) → List (List Lit) → Type 0
Satisfies a clauses = IsTrue (all_hold a clauses)

-- each assignment that satisfies every clause satisfies this one
abbrev pub Follows : List (List Lit) → List Lit → Type 0
Follows clauses lits = (a : ℕ → Bool) → Satisfies a clauses → IsTrue (clause_holds a lits)

-- the clause names only variables below a number
abbrev pub IsClauseBelow : ℕ → List Lit → Type 0
IsClauseBelow n lits = AllByRecursion (λ (lit : Lit). variable_of lit < n) lits

-- the clauses name only variables below a number
abbrev pub AreClausesBelow : ℕ → List (List Lit) → Type 0
AreClausesBelow n clauses = AllByRecursion (IsClauseBelow n) clauses

-- the two assignments are the same on the variables below a number
abbrev pub Agrees : ℕ → (ℕ → Bool) → (ℕ → Bool) → Type 0
Agrees n a b = (v : ℕ) → v < n → a v ≡ b v
