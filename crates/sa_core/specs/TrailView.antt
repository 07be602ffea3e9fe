-- The trail of a search: the literals that are true, in the order in which they became it, each with its reason.
use Rattle.std.specs.Prelude.{◌≡◌, ◌+◌, ◌*◌, ◌^◌, ◌<◌, ◌≤◌, ℕ, zero, suc, Bool, true, false, List, [], ◌∷◌, map, length, slice_get, count_by, is_none, Option, Some, None}
use Rattle.cn_clauses.specs.declared.lit.Lit.{Lit}
use Rattle.cn_clauses.specs.Literals.{opposite_of, variable_of}
use Rattle.sa_core.specs.declared.step.Step.{Step}

-- the literals of the steps
abbrev pub lits_of : List Step → List Lit
lits_of steps = map (λ (step : Step). step.lit) steps

-- the literal stands in the list before a place
pub record Stands (lits : List Lit) (limit : ℕ) (lit : Lit) : Type 0 where
  pub place : ℕ
  pub before : place < limit
  pub is : slice_get lits place ≡ Some lit

-- neither the literal nor its opposite stands before a place
pub record IsOpen (lits : List Lit) (limit : ℕ) (lit : Lit) : Type 0 where
  pub not_true : Stands lits limit lit → ⊥
  pub not_false : Stands lits limit (opposite_of lit) → ⊥

-- each literal of the steps has its place, at the literal's number, and no two of them are opposite
pub record IsPlaced (steps : List Step) (places : List (Option ℕ)) : Type 0 where
  pub placed : (place : ℕ) (lit : Lit) → slice_get (lits_of steps) place ≡ Some lit
      → slice_get places lit.0 ≡ Some (Some place)
  pub stands : (place : ℕ) (lit : Lit) → slice_get places lit.0 ≡ Some (Some place)
      → slice_get (lits_of steps) place ≡ Some lit
  pub apart : (first second : ℕ) (lit : Lit) → slice_get (lits_of steps) first ≡ Some lit
      → slice_get (lits_of steps) second ≡ Some (opposite_of lit) → ⊥
  pub room : length steps + count_by is_none places ≡ length places

-- the steps of the first list stand in the second
pub record Grows (old new : List Step) : Type 0 where
  pub longer : length old ≤ length new
  pub kept : (place : ℕ) (step : Step) → slice_get old place ≡ Some step → slice_get new place ≡ Some step

-- the value of a literal, where it or its opposite stands
abbrev pub HasValue : List Lit → Lit → Option Bool → Type 0
HasValue trail lit (Some true) = Stands trail (length trail) lit
HasValue trail lit (Some false) = Stands trail (length trail) (opposite_of lit)
HasValue trail lit None = IsOpen trail (length trail) lit

-- a decision counts as 1, and a step with a reason as 2
abbrev pub digit : Option ℕ → ℕ
digit None = 1
digit (Some reason) = 2

-- the steps as the digits of a number in base 3 with so many digits
abbrev pub code : ℕ → List Step → ℕ
code size [] = 0
code zero (step ∷ steps) = 0
code (suc size) (step ∷ steps) = digit step.reason * 3 ^ size + code size steps

-- no literal of a variable below a number is open
abbrev pub AllGiven : ℕ → List Lit → Type 0
AllGiven variables trail = (lit : Lit) → variable_of lit < variables → IsOpen trail (length trail) lit → ⊥
