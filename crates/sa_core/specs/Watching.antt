-- Watches: two literals of a clause that are not false, or the clause is true. Lists of the places of what a literal watches.
use Rattle.std.specs.Prelude.{◌≡◌, ◌⊎◌, ◌+◌, ◌*◌, ◌<◌, ℕ, List, ◌∷◌, ◌++◌, [], length, slice_get, slice_set}
use Rattle.std.specs.Prelude.{Option, Some, None, Contains}
use Rattle.cn_clauses.specs.declared.lit.Lit.{Lit}
use Rattle.cn_clauses.specs.Literals.{opposite_of, variable_of}
use Rattle.sa_core.specs.declared.step.Step.{Step}
use Rattle.sa_core.specs.declared.pair.Pair.{Pair}
use Rattle.sa_core.specs.declared.watches.Watchers.{Watchers}
use Rattle.sa_core.specs.TrailView.{lits_of, Stands}
use Rattle.sa_core.specs.SolverView.{AreWithin, AreJustified}

-- the place stands in the list at a number
pub record IsListed (lists : List (List ℕ)) (number place : ℕ) : Type 0 where
  pub list : List ℕ
  pub is : slice_get lists number ≡ Some list
  pub has : Contains list place

-- a clause that is watched by two different literals stands in the lists of both
pub record IsPairListed (lists : List (List ℕ)) (pair : Pair) (place : ℕ) : Type 0 where
  pub first : IsListed lists pair.first.0 place
  pub second : IsListed lists pair.second.0 place

abbrev pub AreListed : List Pair → List (List ℕ) → Type 0
AreListed pairs lists =
    (place : ℕ) (pair : Pair) → slice_get pairs place ≡ Some pair → (pair.first ≡ pair.second → ⊥)
    → IsPairListed lists pair place

-- a literal of the clause stands before a limit
pub record IsTrueBefore (trail : List Lit) (limit : ℕ) (lits : List Lit) : Type 0 where
  pub lit : Lit
  pub within : Contains lits lit
  pub stands : Stands trail limit lit

-- two different literals of the clause, neither of them false before a place
pub record Guards (trail : List Lit) (from : ℕ) (lits : List Lit) (pair : Pair) : Type 0 where
  pub first : Contains lits pair.first
  pub second : Contains lits pair.second
  pub apart : pair.first ≡ pair.second → ⊥
  pub first_left : Stands trail from (opposite_of pair.first) → ⊥
  pub second_left : Stands trail from (opposite_of pair.second) → ⊥

-- the clause is true before a limit, or its pair guards it
abbrev pub IsGuarded : List Lit → ℕ → ℕ → List Lit → Pair → Type 0
IsGuarded trail from limit lits pair = IsTrueBefore trail limit lits ⊎ Guards trail from lits pair

-- so is each clause
abbrev pub AreGuarded : List (List Lit) → List Pair → List Lit → ℕ → ℕ → Type 0
AreGuarded clauses pairs trail from limit =
    (place : ℕ) (lits : List Lit) (pair : Pair) → slice_get clauses place ≡ Some lits
    → slice_get pairs place ≡ Some pair → IsGuarded trail from limit lits pair

-- and was where each decision was made
abbrev pub WereGuarded : List (List Lit) → List Pair → List Step → Type 0
WereGuarded clauses pairs steps =
    (place : ℕ) (step : Step) → slice_get steps place ≡ Some step → step.reason ≡ None
    → AreGuarded clauses pairs (lits_of steps) place place

-- the length of the list at a number
pub record IsCount (lists : List (List ℕ)) (number count : ℕ) : Type 0 where
  pub list : List ℕ
  pub is : slice_get lists number ≡ Some list
  pub counts : count ≡ length list

-- the list at a number has an element at an index
pub record HasPlace (lists : List (List ℕ)) (number index : ℕ) : Type 0 where
  pub list : List ℕ
  pub is : slice_get lists number ≡ Some list
  pub within : index < length list

-- this one
pub record IsPlaceAt (lists : List (List ℕ)) (number index place : ℕ) : Type 0 where
  pub list : List ℕ
  pub is : slice_get lists number ≡ Some list
  pub has : slice_get list index ≡ Some place

-- the elements before the index stay, and of those behind it all but the one that was taken out, at some index
pub record IsDropped (old new : List ℕ) (index : ℕ) : Type 0 where
  pub shorter : length old ≡ length new + 1
  pub front : (at place : ℕ) → at < index → slice_get old at ≡ Some place → slice_get new at ≡ Some place
  pub kept : (place other : ℕ) → slice_get old index ≡ Some other → Contains old place → (place ≡ other → ⊥)
      → Contains new place

-- the list at a number lost the element at an index
pub record Drops (old new : List (List ℕ)) (number index : ℕ) : Type 0 where
  pub list : List ℕ
  pub is : slice_get old number ≡ Some list
  pub rest : List ℕ
  pub dropped : IsDropped list rest index
  pub lists : new ≡ slice_set old number rest

-- a place was put at the end of the list at a number
pub record Lists (old new : List (List ℕ)) (number place : ℕ) : Type 0 where
  pub list : List ℕ
  pub is : slice_get old number ≡ Some list
  pub lists : new ≡ slice_set old number (list ++ place ∷ [])

-- and of those of both literals of a pair
pub record Watches (old new : List (List ℕ)) (pair : Pair) (place : ℕ) : Type 0 where
  pub middle : List (List ℕ)
  pub second : Lists old middle pair.second.0 place
  pub first : Lists middle new pair.first.0 place

-- where a pair is of two literals, they are of variables below a number
abbrev pub IsPairWithin : ℕ → Pair → Type 0
IsPairWithin variables pair =
    (pair.first ≡ pair.second → ⊥) → (variable_of pair.first < variables) × (variable_of pair.second < variables)

-- clauses of these variables, each with a pair, which stands in the lists
pub record IsStored (variables : ℕ) (clauses : List (List Lit)) (watchers : Watchers) : Type 0 where
  pub size : length watchers.lists.items ≡ 2 * variables
  pub count : length watchers.pairs ≡ length clauses
  pub listed : AreListed watchers.pairs watchers.lists.items
  pub within : AreWithin variables clauses

-- with steps that are justified, before each decision of which they were guarded
pub record IsKept (variables : ℕ) (clauses : List (List Lit)) (watchers : Watchers) (steps : List Step) : Type 0 where
  pub stored : IsStored variables clauses watchers
  pub justified : AreJustified clauses steps
  pub guarded : WereGuarded clauses watchers.pairs steps

-- where propagation has ended without a conflict, all clauses are guarded
abbrev pub IsEnded : List (List Lit) → List Pair → List Lit → Option ℕ → Type 0
IsEnded clauses pairs trail None = AreGuarded clauses pairs trail (length trail) (length trail)
IsEnded clauses pairs trail (Some place) = Unit {0}
