-- Which assignments satisfy a formula. An assignment gives each variable a value.
use Rattle.std.specs.Prelude.{◌≡◌, ◌<◌, ℕ, Bool, not, List, IsTrue, if◌then◌else◌}
use Rattle.std.specs.List.{list_any, list_all, AllByRecursion}
use Rattle.jb_run.specs.declared.formula.Lit.{Lit}
use Rattle.jb_run.specs.declared.formula.Formula.{Formula}
use Rattle.jb_run.specs.declared.gates.Bit.{Bit}
use Rattle.jb_run.specs.declared.gates.Bit.TheVariants.{Known, Of}
use Rattle.jb_run.specs.Clauses.{clauses_of}

-- the value of a literal: that of its variable, or the opposite
abbrev pub lit_value : (ℕ → Bool) → Lit → Bool
lit_value a lit = if lit.negated then not (a lit.variable) else a lit.variable

-- the value of a bit
abbrev pub bit_value : (ℕ → Bool) → Bit → Bool
bit_value a (Known value) = value
bit_value a (Of lit) = lit_value a lit

-- whether some literal of a clause is true
abbrev pub clause_holds : (ℕ → Bool) → List Lit → Bool
clause_holds a lits = list_any (lit_value a) lits

-- the assignment makes each clause true
abbrev pub Satisfies : (ℕ → Bool) → Formula → Type 0
Satisfies a formula = IsTrue (list_all (clause_holds a) (clauses_of formula))

-- the two assignments are the same on the variables below a number
abbrev pub Agrees : ℕ → (ℕ → Bool) → (ℕ → Bool) → Type 0
Agrees n a b = (v : ℕ) → v < n → a v ≡ b v

-- the bit is known, or of a variable below a number
abbrev pub IsBitBelow : ℕ → Bit → Type 0
IsBitBelow n (Known value) = Unit {0}
IsBitBelow n (Of lit) = lit.variable < n

-- the clauses name only variables below a number
abbrev pub AreClausesBelow : ℕ → List (List Lit) → Type 0
AreClausesBelow n clauses = AllByRecursion (λ lits. AllByRecursion (λ (lit : Lit). lit.variable < n) lits) clauses
