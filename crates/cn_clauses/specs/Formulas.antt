-- What a formula shows: the number of its variables, its clauses, and the literal that is known to be true.
use Rattle.std.specs.Prelude.{◌≡◌, ◌==◌, ◌+◌, ℕ, Bool, true, false, List, [], ◌∷◌, ◌++◌, length, Option, Some, None, slice_index_or, if◌then◌else◌}
use Rattle.cn_clauses.specs.declared.lit.Lit.{Lit}
use Rattle.cn_clauses.specs.declared.formula.Formula.{Formula}
use Rattle.cn_clauses.specs.Literals.{literal, opposite_of}
use Rattle.cn_clauses.specs.Clauses.{lits_of_all}

-- how many variables the formula has
abbrev pub variables_of : Formula → ℕ
variables_of formula = length formula.variables

-- the clauses of the formula, in order
abbrev pub clauses_of : Formula → List (List Lit)
clauses_of formula = lits_of_all formula.clauses

-- the literal that the formula knows to be true, if it has one
abbrev pub known_of : Formula → Option Lit
known_of formula = formula.truth

-- the value of a literal that is the known one or its opposite
abbrev pub constant_of : Option Lit → Lit → Option Bool
constant_of None lit = None
constant_of (Some known) lit =
    if lit.0 == known.0 then Some true else if lit.0 == (opposite_of known).0 then Some false else None

-- the formula got its true literal: one more variable, and the clause of its literal alone
pub record GetsTruth (old new : Formula) (lit : Lit) : Type 0 where
  pub next : lit ≡ literal (variables_of old) false
  pub variables : variables_of new ≡ variables_of old + 1
  pub clauses : clauses_of new ≡ clauses_of old ++ (lit ∷ []) ∷ []
  pub known : known_of new ≡ Some lit

-- the value of a variable under an assignment that lists them, and false past its end
abbrev pub value_at : List Bool → ℕ → Bool
value_at values variable = slice_index_or values variable false
