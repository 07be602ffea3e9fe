-- How a formula grows: each assignment that satisfies it extends in exactly one way, and a literal has a value.
use Rattle.std.specs.Prelude.{◌≡◌, ◌<◌, ◌≤◌, ◌+◌, ℕ, Bool, List, ◌++◌, length, map, false, not, Some, if◌then◌else◌}
use Rattle.std.specs.Option.{ForSome}
use Rattle.cn_clauses.specs.declared.lit.Lit.{Lit}
use Rattle.cn_clauses.specs.declared.formula.Formula.{Formula}
use Rattle.cn_clauses.specs.Literals.{variable_of, literal, lit_value}
use Rattle.cn_clauses.specs.Satisfaction.{all_hold, Satisfies, Agrees, IsClauseBelow}
use Rattle.cn_clauses.specs.Formulas.{variables_of, clauses_of, known_of}

-- the new formula has the clauses of the old one first, its variables, and the literal that it knew
pub record Continues (old new : Formula) : Type 0 where
  pub grows : variables_of old ≤ variables_of new
  pub rest : List (List Lit)
  pub clauses : clauses_of new ≡ clauses_of old ++ rest
  pub known : ForSome (known_of old) (λ lit. known_of new ≡ Some lit)

-- an assignment that satisfies the new formula, and is the same on the old one's variables
pub record IsExtension (old new : Formula) (a b : ℕ → Bool) : Type 0 where
  pub agrees : Agrees (variables_of old) a b
  pub satisfies : Satisfies b (clauses_of new)

-- the new formula extends the old in exactly one way: each assignment that satisfies the old one extends to the new one,
-- only one does on its variables, and each that satisfies the new one satisfies the old
pub record Extends (old new : Formula) : Type 0 where
  pub continues : Continues old new
  pub keeps : (a : ℕ → Bool) → Satisfies a (clauses_of new) → Satisfies a (clauses_of old)
  pub extends : (a : ℕ → Bool) → Satisfies a (clauses_of old) → (b : ℕ → Bool) × IsExtension old new a b
  pub only : (a b : ℕ → Bool) → Satisfies a (clauses_of new) → Satisfies b (clauses_of new)
      → Agrees (variables_of old) a b → Agrees (variables_of new) a b

-- the literal is of the formula's variables, and has the value under each assignment that satisfies the formula
pub record Shows (formula : Formula) (lit : Lit) (value : (ℕ → Bool) → Bool) : Type 0 where
  pub within : variable_of lit < variables_of formula
  pub is : (a : ℕ → Bool) → Satisfies a (clauses_of formula) → lit_value a lit ≡ value a

-- a literal for a value: it has the value, and the formula was extended in exactly one way
pub record IsGate (old new : Formula) (lit : Lit) (value : (ℕ → Bool) → Bool) : Type 0 where
  pub extends : Extends old new
  pub shows : Shows new lit value

-- the formula grew by an input: each assignment that satisfies the old one extends in exactly one way for each value of the literal
pub record IsFresh (old new : Formula) (lit : Lit) : Type 0 where
  pub continues : Continues old new
  pub within : variable_of lit < variables_of new
  pub keeps : (a : ℕ → Bool) → Satisfies a (clauses_of new) → Satisfies a (clauses_of old)
  pub extends : (a : ℕ → Bool) → Satisfies a (clauses_of old) → (value : Bool)
      → (b : ℕ → Bool) × IsExtension old new a b × (lit_value b lit ≡ value)
  pub only : (a b : ℕ → Bool) → Agrees (variables_of old) a b → lit_value a lit ≡ lit_value b lit
      → Agrees (variables_of new) a b

-- the formula grew by inputs: each assignment that satisfies the old one extends in exactly one way for each list of
-- values of these literals, and each that satisfies the new one satisfies the old
pub record Grows (old new : Formula) (inputs : List Lit) : Type 0 where
  pub continues : Continues old new
  pub within : IsClauseBelow (variables_of new) inputs
  pub keeps : (a : ℕ → Bool) → Satisfies a (clauses_of new) → Satisfies a (clauses_of old)
  pub extends : (a : ℕ → Bool) → Satisfies a (clauses_of old) → (values : List Bool) → length values ≡ length inputs
      → (b : ℕ → Bool) × IsExtension old new a b × (map (lit_value b) inputs ≡ values)
  pub only : (a b : ℕ → Bool) → Satisfies a (clauses_of new) → Satisfies b (clauses_of new)
      → Agrees (variables_of old) a b → map (lit_value a) inputs ≡ map (lit_value b) inputs
      → Agrees (variables_of new) a b

-- whether two values are the same
abbrev pub same : Bool → Bool → Bool
same x y = if x then y else not y

-- the value depends on the formula's variables alone
abbrev pub IsOver : Formula → ((ℕ → Bool) → Bool) → Type 0
IsOver formula value = (a b : ℕ → Bool) → Agrees (variables_of formula) a b → value a ≡ value b

-- the new formula has one more variable, that of the literal, and clauses that hold exactly where the literal has the value
pub record Defines (old new : Formula) (lit : Lit) (value : (ℕ → Bool) → Bool) : Type 0 where
  pub next : lit ≡ literal (variables_of old) false
  pub variables : variables_of new ≡ variables_of old + 1
  pub rest : List (List Lit)
  pub clauses : clauses_of new ≡ clauses_of old ++ rest
  pub known : ForSome (known_of old) (λ k. known_of new ≡ Some k)
  pub over : IsOver old value
  pub holds : (a : ℕ → Bool) → all_hold a rest ≡ same (lit_value a lit) (value a)
