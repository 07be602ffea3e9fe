-- Clauses as lists of literals, and when a list of them is over a number of variables.
use Rattle.std.specs.Prelude.{◌<◌, ℕ, Bool, List, IsTrue, map, Option}
use Rattle.std.specs.List.{AllByRecursion-prop}
use Rattle.std.specs.Option.{ForSome}
use Rattle.std.specs.Coded.{le_prop}
use Rattle.cn_clauses.specs.declared.lit.Lit.{Lit}
use Rattle.cn_clauses.specs.declared.clause.Clause.{Clause}
use Rattle.cn_clauses.specs.Literals.{variable_of, lit_value}
use Rattle.cn_clauses.specs.Satisfaction.{Satisfies, IsClauseBelow, AreClausesBelow}

-- the clauses, each as the list of its literals
abbrev pub lits_of_all : List Clause → List (List Lit)
lits_of_all clauses = map (λ (clause : Clause). clause.lits) clauses

-- a literal, where there is one, is of a variable below a number, and true under each assignment that satisfies the clauses
abbrev pub IsFixed : ℕ → List (List Lit) → Option Lit → Type 0
IsFixed n clauses known =
    ForSome known (λ lit. (variable_of lit < n) × ((a : ℕ → Bool) → Satisfies a clauses → IsTrue (lit_value a lit)))

-- for the ghost field of a formula: the fact has one proof at most
pub AreClausesBelow-prop : (n : ℕ) (clauses : List (List Lit)) → IsProp (AreClausesBelow n clauses)
AreClausesBelow-prop n clauses =
    AllByRecursion-prop (IsClauseBelow n)
    (λ lits. AllByRecursion-prop (λ (lit : Lit). variable_of lit < n) (λ lit. le_prop) lits) clauses
