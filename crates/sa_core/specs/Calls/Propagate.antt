-- What the functions of propagation ensure.
use Rattle.std.specs.Prelude.{◌≡◌, ◌⊎◌, ◌+◌, ◌<◌, ◌≤◌, ℕ, List, length, slice_get, Option, Some, None, Contains}
use Rattle.cn_clauses.specs.declared.lit.Lit.{Lit}
use Rattle.cn_clauses.specs.Literals.{opposite_of}
use Rattle.sa_core.specs.declared.step.Step.{Step}
use Rattle.sa_core.specs.declared.pair.Pair.{Pair}
use Rattle.sa_core.specs.declared.watches.Watchers.{Watchers}
use Rattle.sa_core.specs.declared.propagate.Asks.{Asks}
use Rattle.sa_core.specs.declared.propagate.Asks.TheVariants.{Nothing, Turn, Literal, Conflict}
use Rattle.sa_core.specs.TrailView.{lits_of, Stands, IsOpen, Grows}
use Rattle.sa_core.specs.SolverView.{IsFalse, IsFalseAt, IsFound}
use Rattle.sa_core.specs.Watching.{IsGuarded, AreGuarded, IsKept, IsEnded}

-- the literal does not watch the pair's clause
abbrev pub IsStale : Pair → Lit → Type 0
IsStale pair lit = (pair.first ≡ pair.second → ⊥) → (pair.first ≡ lit → ⊥) × (pair.second ≡ lit → ⊥)

-- one literal of the pair, and the other
pub record IsOther (pair : Pair) (lit other : Lit) : Type 0 where
  pub apart : lit ≡ other → ⊥
  pub either : ((pair.first ≡ lit) × (pair.second ≡ other)) ⊎ ((pair.second ≡ lit) × (pair.first ≡ other))

-- a literal of the clause that is not the other one, and not false
pub record IsSpareFor (trail lits : List Lit) (other lit : Lit) : Type 0 where
  pub within : Contains lits lit
  pub apart : lit ≡ other → ⊥
  pub left : Stands trail (length trail) (opposite_of lit) → ⊥

-- the one at an index
pub record IsSpareAt (trail lits : List Lit) (other : Lit) (index : ℕ) : Type 0 where
  pub lit : Lit
  pub is : slice_get lits index ≡ Some lit
  pub spare : IsSpareFor trail lits other lit

-- the literals of the clause are false but for one
abbrev pub AreFalseBut : List Lit → List Lit → Lit → Type 0
AreFalseBut trail lits other =
    (lit : Lit) → Contains lits lit → (lit ≡ other → ⊥) → Stands trail (length trail) (opposite_of lit)

-- the other literal of a pair is true
pub record HasTrueOther (trail : List Lit) (pair : Pair) (lit : Lit) : Type 0 where
  pub other : Lit
  pub is : IsOther pair lit other
  pub stands : Stands trail (length trail) other

-- a literal that is not false may take the place of one of a pair
pub record TurnsTo (trail lits : List Lit) (pair : Pair) (lit : Lit) (new : Pair) : Type 0 where
  pub is : IsOther pair lit new.second
  pub spare : IsSpareFor trail lits new.second new.first

-- the other literal of a pair is open, and the rest of the clause is false
pub record AsksForOther (trail lits : List Lit) (pair : Pair) (lit other : Lit) : Type 0 where
  pub is : IsOther pair lit other
  pub others : AreFalseBut trail lits other
  pub unset : IsOpen trail (length trail) other

-- what a clause asks that a literal watched
abbrev pub IsAskedOf : List Lit → List Lit → Pair → Lit → Asks → Type 0
IsAskedOf trail lits pair lit Nothing = IsStale pair lit ⊎ HasTrueOther trail pair lit
IsAskedOf trail lits pair lit (Turn new) = TurnsTo trail lits pair lit new
IsAskedOf trail lits pair lit (Literal other) = AsksForOther trail lits pair lit other
IsAskedOf trail lits pair lit Conflict = IsFalse trail (length trail) lits

-- and the clause at a place
abbrev pub IsAsked : List (List Lit) → List Lit → ℕ → Pair → Lit → Asks → Type 0
IsAsked clauses trail place pair lit asks =
    (lits : List Lit) → slice_get clauses place ≡ Some lits → IsAskedOf trail lits pair lit asks

-- the place stands in the list before an index
pub record IsAwaited (list : List ℕ) (index place : ℕ) : Type 0 where
  pub at : ℕ
  pub before : at < index
  pub is : slice_get list at ≡ Some place

-- each clause is guarded from behind a place of the trail on, or from there on and is still to be looked at
abbrev pub ArePassed : List (List Lit) → List Pair → List Lit → ℕ → List ℕ → ℕ → Type 0
ArePassed clauses pairs trail head list index =
    (place : ℕ) (lits : List Lit) (pair : Pair) → slice_get clauses place ≡ Some lits
    → slice_get pairs place ≡ Some pair
    → IsGuarded trail (head + 1) (length trail) lits pair
    ⊎ (IsGuarded trail head (length trail) lits pair × IsAwaited list index place)

-- the clauses that a literal watches, which is false since a place, were looked at but for the first ones of its list
pub record IsTurning (variables : ℕ) (clauses : List (List Lit)) (watchers : Watchers) (steps : List Step) (head : ℕ)
    (lit : Lit) (index : ℕ) : Type 0 where
  pub kept : IsKept variables clauses watchers steps
  pub falsified : slice_get (lits_of steps) head ≡ Some (opposite_of lit)
  pub list : List ℕ
  pub is : slice_get watchers.lists.items lit.0 ≡ Some list
  pub room : index ≤ length list
  pub passed : ArePassed clauses watchers.pairs (lits_of steps) head list index

-- a look at one more of them, or it is false
abbrev pub IsVisited : ℕ → List (List Lit) → Watchers → List Step → ℕ → Lit → ℕ → Option ℕ → Type 0
IsVisited variables clauses watchers steps head lit index None =
    IsTurning variables clauses watchers steps head lit index
IsVisited variables clauses watchers steps head lit index (Some place) = IsFalseAt clauses (lits_of steps) place

pub record Visits (variables : ℕ) (clauses : List (List Lit)) (watchers : Watchers) (old new : List Step) (head : ℕ)
    (lit : Lit) (index : ℕ) (found : Option ℕ) : Type 0 where
  pub grows : Grows old new
  pub kept : IsKept variables clauses watchers new
  pub visited : IsVisited variables clauses watchers new head lit index found

-- all of them were looked at, or one is false
abbrev pub AreVisited : List (List Lit) → Watchers → List Lit → ℕ → Option ℕ → Type 0
AreVisited clauses watchers trail head None = AreGuarded clauses watchers.pairs trail (head + 1) (length trail)
AreVisited clauses watchers trail head (Some place) = IsFalseAt clauses trail place

pub record VisitsAll (variables : ℕ) (clauses : List (List Lit)) (watchers : Watchers) (old new : List Step) (head : ℕ)
    (found : Option ℕ) : Type 0 where
  pub grows : Grows old new
  pub kept : IsKept variables clauses watchers new
  pub visited : AreVisited clauses watchers (lits_of new) head found

-- propagation added steps until all clauses are settled, or one is false
pub record Propagates (variables : ℕ) (clauses : List (List Lit)) (watchers : Watchers) (old new : List Step)
    (found : Option ℕ) : Type 0 where
  pub grows : Grows old new
  pub kept : IsKept variables clauses watchers new
  pub finds : IsFound clauses (lits_of new) found
  pub ended : IsEnded clauses watchers.pairs (lits_of new) found
