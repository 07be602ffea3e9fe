-- The invariant of a search as a whole, and what its steps do.
use Rattle.std.specs.Prelude.{◌≡◌, ◌*◌, ◌<◌, ℕ, Bool, true, false, List, [], ◌∷◌, ◌++◌, length, slice_get, Option, Some}
use Rattle.cn_clauses.specs.declared.lit.Lit.{Lit}
use Rattle.cn_clauses.specs.Literals.{literal}
use Rattle.cn_clauses.specs.Formulas.{value_at}
use Rattle.sa_core.specs.declared.search.Search.{Search}
use Rattle.sa_core.specs.declared.pair.Pair.{Pair}
use Rattle.sa_core.specs.Watching.{IsStored, IsKept, IsEnded}
use Rattle.sa_core.specs.TrailView.{lits_of, Stands, code}
use Rattle.sa_core.specs.SolverView.{IsFound}

-- the clauses of a search, and its trail
abbrev pub clauses_of : Search → List (List Lit)
clauses_of search = search.store

abbrev pub trail_of : Search → List Lit
trail_of search = lits_of search.trail.steps

-- the clauses are watched, each step is justified, and the clauses were guarded before each decision
abbrev pub IsReady : Search → Type 0
IsReady search = IsKept search.trail.variables (clauses_of search) search.watchers search.trail.steps

-- the number of the trail, which rises
abbrev pub reached : Search → ℕ
reached search = code (2 * search.trail.variables) search.trail.steps

-- a clause was put at the end, with a pair of one literal
pub record Stores (old new : Search) (lits : List Lit) : Type 0 where
  pub stored : IsStored old.trail.variables (clauses_of old) old.watchers
      → IsStored new.trail.variables (clauses_of new) new.watchers
  pub clauses : clauses_of new ≡ clauses_of old ++ lits ∷ []
  pub pairs : (place : ℕ) (pair : Pair) → (place ≡ length old.watchers.pairs → ⊥)
      → slice_get new.watchers.pairs place ≡ Some pair → slice_get old.watchers.pairs place ≡ Some pair
  pub trail : new.trail ≡ old.trail

-- a search with these clauses and an empty trail
pub record IsLoaded (search : Search) (variables : ℕ) (clauses : List (List Lit)) : Type 0 where
  pub stored : IsStored search.trail.variables (clauses_of search) search.watchers
  pub number : search.trail.variables ≡ variables
  pub holds : clauses_of search ≡ clauses
  pub empty : search.trail.steps ≡ []

-- a search over these clauses, in which propagation has ended
pub record IsSearching (search : Search) (variables : ℕ) (clauses : List (List Lit)) (found : Option ℕ) : Type 0 where
  pub ready : IsReady search
  pub number : search.trail.variables ≡ variables
  pub holds : clauses_of search ≡ clauses
  pub finds : IsFound (clauses_of search) (trail_of search) found
  pub ended : IsEnded (clauses_of search) search.watchers.pairs (trail_of search) found

-- the search went on: propagation ended, and the trail's number rose
pub record GoesOn (old new : Search) (found : Option ℕ) : Type 0 where
  pub ready : IsReady new
  pub variables : new.trail.variables ≡ old.trail.variables
  pub finds : IsFound (clauses_of new) (trail_of new) found
  pub ended : IsEnded (clauses_of new) new.watchers.pairs (trail_of new) found
  pub rises : reached old < reached new

-- a value for each variable below a number: whether its literal stands in the trail
abbrev pub ReadsAs : List Lit → ℕ → Bool → Type 0
ReadsAs trail variable true = Stands trail (length trail) (literal variable false)
ReadsAs trail variable false = Stands trail (length trail) (literal variable false) → ⊥

abbrev pub Reads : List Lit → ℕ → List Bool → Type 0
Reads trail count values = (variable : ℕ) → variable < count → ReadsAs trail variable (value_at values variable)
