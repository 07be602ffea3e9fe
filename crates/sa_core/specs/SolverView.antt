-- The invariant of a search, by part: clauses that are settled, and steps that are justified.
use Rattle.std.specs.Prelude.{◌≡◌, ◌<◌, ℕ, List, length, slice_get, Option, Some, None, Contains}
use Rattle.cn_clauses.specs.declared.lit.Lit.{Lit}
use Rattle.cn_clauses.specs.Literals.{opposite_of, variable_of}
use Rattle.sa_core.specs.declared.step.Step.{Step}
use Rattle.sa_core.specs.TrailView.{lits_of, Stands, IsOpen}

-- each literal of the clause stands opposed before a place of the trail
abbrev pub IsFalse : List Lit → ℕ → List Lit → Type 0
IsFalse trail limit lits = (lit : Lit) → Contains lits lit → Stands trail limit (opposite_of lit)

-- by the trail before a place the clause is true, or two of its literals are open
pub data IsSettled (trail : List Lit) (limit : ℕ) (lits : List Lit) : Type 0 where
  ByTrue : (lit : Lit) → Contains lits lit → Stands trail limit lit → IsSettled trail limit lits
  ByOpen : (one other : Lit) → Contains lits one → Contains lits other → (one ≡ other → ⊥) → IsOpen trail limit one
      → IsOpen trail limit other → IsSettled trail limit lits

-- so is each clause
abbrev pub AreSettled : List (List Lit) → List Lit → ℕ → Type 0
AreSettled clauses trail limit = (lits : List Lit) → Contains clauses lits → IsSettled trail limit lits

-- the other literals of the clause are false before a place
pub record IsUnit (trail : List Lit) (limit : ℕ) (lits : List Lit) (lit : Lit) : Type 0 where
  pub within : Contains lits lit
  pub others : (other : Lit) → Contains lits other → (other ≡ lit → ⊥) → Stands trail limit (opposite_of other)

-- the literal was forced by a clause
pub record IsImplied (clauses : List (List Lit)) (trail : List Lit) (place : ℕ) (lit : Lit) (reason : ℕ) : Type 0 where
  pub lits : List Lit
  pub stands : slice_get clauses reason ≡ Some lits
  pub unit : IsUnit trail place lits lit

-- a decision was made where all clauses were settled; any other step was forced by its reason
abbrev pub IsJustifiedBy : List (List Lit) → List Lit → ℕ → Lit → Option ℕ → Type 0
IsJustifiedBy clauses trail place lit None = AreSettled clauses trail place
IsJustifiedBy clauses trail place lit (Some reason) = IsImplied clauses trail place lit reason

abbrev pub AreJustified : List (List Lit) → List Step → Type 0
AreJustified clauses steps =
    (place : ℕ) (step : Step) → slice_get steps place ≡ Some step
    → IsJustifiedBy clauses (lits_of steps) place step.lit step.reason

-- the literals are of variables below a number
abbrev pub IsWithin : ℕ → List Lit → Type 0
IsWithin variables lits = (lit : Lit) → Contains lits lit → variable_of lit < variables

-- so are those of each clause
abbrev pub AreWithin : ℕ → List (List Lit) → Type 0
AreWithin variables clauses = (lits : List Lit) → Contains clauses lits → IsWithin variables lits

-- a clause of the list is false, at this place, or all are settled
pub record IsFalseAt (clauses : List (List Lit)) (trail : List Lit) (place : ℕ) : Type 0 where
  pub lits : List Lit
  pub stands : slice_get clauses place ≡ Some lits
  pub fails : IsFalse trail (length trail) lits

-- what propagation found: all clauses are settled, or one is false
abbrev pub IsFound : List (List Lit) → List Lit → Option ℕ → Type 0
IsFound clauses trail None = AreSettled clauses trail (length trail)
IsFound clauses trail (Some place) = IsFalseAt clauses trail place

-- a decision with none after it
pub record IsLastDecision (steps : List Step) (place : ℕ) : Type 0 where
  pub step : Step
  pub is : slice_get steps place ≡ Some step
  pub decided : step.reason ≡ None
  pub last : (later : ℕ) (other : Step) → place < later → slice_get steps later ≡ Some other → other.reason ≡ None → ⊥

-- no step is a decision
abbrev pub NoDecision : List Step → Type 0
NoDecision steps = (place : ℕ) (step : Step) → slice_get steps place ≡ Some step → step.reason ≡ None → ⊥
