-- What the functions of the start ensure.
use Rattle.std.specs.Prelude.{◌≡◌, ℕ, Bool, true, false, List, length, slice_get, Option, Some, None}
use Rattle.cn_clauses.specs.declared.lit.Lit.{Lit}
use Rattle.sa_core.specs.declared.step.Step.{Step}
use Rattle.sa_core.specs.declared.pair.Pair.{Pair}
use Rattle.sa_core.specs.declared.watches.Watchers.{Watchers}
use Rattle.sa_core.specs.declared.start.Shows.{Shows}
use Rattle.sa_core.specs.declared.start.Shows.TheVariants.{Truth, Open, Literal, Conflict}
use Rattle.sa_core.specs.TrailView.{lits_of, IsOpen, Grows}
use Rattle.sa_core.specs.SolverView.{IsFalse, IsUnit, IsFalseAt}
use Rattle.sa_core.specs.Watching.{IsTrueBefore, Guards, IsGuarded, IsKept}

-- a clause with one literal that is open while the others are false
pub record AsksFor (trail lits : List Lit) (lit : Lit) : Type 0 where
  pub unit : IsUnit trail (length trail) lits lit
  pub unset : IsOpen trail (length trail) lit

-- what a clause shows under a trail
abbrev pub IsShown : List Lit → List Lit → Shows → Type 0
IsShown trail lits Truth = IsTrueBefore trail (length trail) lits
IsShown trail lits (Open pair) = Guards trail (length trail) lits pair
IsShown trail lits (Literal lit) = AsksFor trail lits lit
IsShown trail lits Conflict = IsFalse trail (length trail) lits

-- what a front of a clause showed: at most one literal that is open, while the others are false
abbrev pub IsScanned : List Lit → List Lit → Option Lit → Type 0
IsScanned trail lits None = IsFalse trail (length trail) lits
IsScanned trail lits (Some lit) = AsksFor trail lits lit

-- the clause at a place is true, or its pair guards it
abbrev pub IsStarted : List (List Lit) → List Pair → List Lit → ℕ → Type 0
IsStarted clauses pairs trail place =
    (lits : List Lit) (pair : Pair) → slice_get clauses place ≡ Some lits → slice_get pairs place ≡ Some pair
    → IsGuarded trail 0 (length trail) lits pair

-- it is, or it is false
abbrev pub IsStartedOr : List (List Lit) → List Pair → List Lit → ℕ → Bool → Type 0
IsStartedOr clauses pairs trail place true = IsStarted clauses pairs trail place
IsStartedOr clauses pairs trail place false = IsFalseAt clauses trail place

pub record StartsAt (variables : ℕ) (clauses : List (List Lit)) (watched watchers : Watchers) (old new : List Step)
    (place : ℕ) (holds : Bool) : Type 0 where
  pub grows : Grows old new
  pub kept : IsKept variables clauses watchers new
  pub others : (at : ℕ) → (at ≡ place → ⊥) → slice_get watchers.pairs at ≡ slice_get watched.pairs at
  pub started : IsStartedOr clauses watchers.pairs (lits_of new) place holds

-- each clause is, or one is false
abbrev pub AreStartedOr : List (List Lit) → List Pair → List Lit → Option ℕ → Type 0
AreStartedOr clauses pairs trail None = (place : ℕ) → IsStarted clauses pairs trail place
AreStartedOr clauses pairs trail (Some place) = IsFalseAt clauses trail place

pub record Starts (variables : ℕ) (clauses : List (List Lit)) (watchers : Watchers) (old new : List Step)
    (found : Option ℕ) : Type 0 where
  pub grows : Grows old new
  pub kept : IsKept variables clauses watchers new
  pub started : AreStartedOr clauses watchers.pairs (lits_of new) found
