-- What analysis finds: which places of the trail were seen, and the clause that is learned.
use Rattle.std.specs.Prelude.{◌≡◌, ◌⊎◌, ◌+◌, ◌<◌, ◌≤◌, ℕ, Bool, true, List, ◌∷◌, length, slice_get, slice_range, slice_index_or}
use Rattle.std.specs.Prelude.{Some, None, Contains}
use Rattle.cn_clauses.specs.declared.lit.Lit.{Lit}
use Rattle.cn_clauses.specs.Literals.{opposite_of}
use Rattle.cn_clauses.specs.Propagation.{IsForced, IsConflict, Rup}
use Rattle.sa_core.specs.declared.step.Step.{Step}
use Rattle.sa_core.specs.declared.pair.Pair.{Pair}
use Rattle.sa_core.specs.TrailView.{Stands}
use Rattle.sa_core.specs.SolverView.{IsImplied}

-- the place was seen
abbrev pub IsSeen : List Bool → ℕ → Type 0
IsSeen seen place = slice_get seen place ≡ Some true

-- the literals that were seen before the mark are kept, negated, in a list
pub record IsLower (trail : List Lit) (mark : ℕ) (seen : List Bool) (lower : List Lit) : Type 0 where
  pub kept : (place : ℕ) (lit : Lit) → place < mark → IsSeen seen place → slice_get trail place ≡ Some lit
      → Contains lower (opposite_of lit)
  pub opposed : (lit : Lit) → Contains lower lit → Stands trail mark (opposite_of lit)

-- the places of the opposites of these literals were seen as well
pub record Sees (trail : List Lit) (old new : List Bool) (lits : List Lit) : Type 0 where
  pub same : length new ≡ length old
  pub kept : (place : ℕ) → IsSeen old place → IsSeen new place
  pub seen : (lit : Lit) (place : ℕ) → Contains lits lit → slice_get trail place ≡ Some (opposite_of lit)
      → IsSeen new place

-- where unit propagation gives the literals that were seen before a place, it opposes a whole clause
abbrev pub GivesConflict : List (List Lit) → List Lit → List Bool → ℕ → Type 0
GivesConflict clauses trail seen end =
    (start : List Lit)
    → ((place : ℕ) (lit : Lit) → place < end → IsSeen seen place → slice_get trail place ≡ Some lit
    → IsForced clauses start lit)
    → IsConflict clauses start

-- a place from one on and before another was seen
pub record SomeSeen (seen : List Bool) (from end : ℕ) : Type 0 where
  pub place : ℕ
  pub later : from ≤ place
  pub before : place < end
  pub is : IsSeen seen place

-- the clause that is learned: its first literal got its opposite at the mark or later, the others before it
pub record IsLearned (clauses : List (List Lit)) (trail : List Lit) (mark : ℕ) (lit : Lit) (lower : List Lit) : Type 0 where
  pub place : ℕ
  pub later : mark ≤ place
  pub is : slice_get trail place ≡ Some (opposite_of lit)
  pub opposed : (other : Lit) → Contains lower other → Stands trail mark (opposite_of other)
  pub rup : Rup clauses (lit ∷ lower)

-- the literals are false before a limit, and the last of them is so just before it
pub record IsHeight (trail : List Lit) (lower : List Lit) (limit : ℕ) : Type 0 where
  pub opposed : (lit : Lit) → Contains lower lit → Stands trail limit (opposite_of lit)
  pub last : (limit ≡ 0) ⊎ ((lit : Lit) × (place : ℕ) × Contains lower lit × (limit ≡ place + 1) × (slice_get trail place ≡ Some (opposite_of lit)))

-- a literal of the list became false just before a limit
pub record IsHighest (trail : List Lit) (lits : List Lit) (limit : ℕ) (lit : Lit) : Type 0 where
  pub within : Contains lits lit
  pub place : ℕ
  pub at : limit ≡ place + 1
  pub is : slice_get trail place ≡ Some (opposite_of lit)

-- none did
abbrev pub NoHighest : List Lit → List Lit → ℕ → Type 0
NoHighest trail lits limit = (lit : Lit) → IsHighest trail lits limit lit → ⊥

-- the first literal of a clause, and one of the others that became false just before a limit, if there is one
pub record IsPairOf (trail : List Lit) (lits : List Lit) (limit : ℕ) (pair : Pair) : Type 0 where
  pub first : pair.first ≡ slice_index_or lits 0 (record { 0 = 0 })
  pub second : Contains lits pair.second
  pub highest : NoHighest trail (slice_range lits 1 (length lits)) limit
      ⊎ IsHighest trail (slice_range lits 1 (length lits)) limit pair.second

-- the first decision from a limit on
pub record IsFirstDecision (steps : List Step) (limit : ℕ) (place : ℕ) : Type 0 where
  pub later : limit ≤ place
  pub step : Step
  pub is : slice_get steps place ≡ Some step
  pub decided : step.reason ≡ None
  pub first : (other : ℕ) (step : Step) → limit ≤ other → other < place → slice_get steps other ≡ Some step
      → step.reason ≡ None → ⊥

-- the clause has a first literal and others, as those of a learned clause are
pub record IsLearnedClause (clauses : List (List Lit)) (trail : List Lit) (mark : ℕ) (lits : List Lit) : Type 0 where
  pub lit : Lit
  pub lower : List Lit
  pub is : lits ≡ lit ∷ lower
  pub learned : IsLearned clauses trail mark lit lower

-- each of the literals is false somewhere
abbrev pub AreFalseBefore : List Lit → List Lit → Type 0
AreFalseBefore trail lits = (lit : Lit) → Contains lits lit → Stands trail (length trail) (opposite_of lit)

-- the place at which a literal became false was seen
abbrev pub IsSeenFalse : List Lit → List Bool → Lit → Type 0
IsSeenFalse trail seen lit = (place : ℕ) → slice_get trail place ≡ Some (opposite_of lit) → IsSeen seen place

-- so were those of a clause's literals, but for one
abbrev pub AreSeenFalse : List Lit → List Bool → List Lit → Lit → Type 0
AreSeenFalse trail seen lits but = (lit : Lit) → Contains lits lit → (lit ≡ but → ⊥) → IsSeenFalse trail seen lit

-- the literal was forced by a clause whose other literals became false at places that were seen
pub record IsSpare (clauses : List (List Lit)) (trail : List Lit) (seen : List Bool) (lit : Lit) : Type 0 where
  pub place : ℕ
  pub is : slice_get trail place ≡ Some lit
  pub reason : ℕ
  pub implied : IsImplied clauses trail place lit reason
  pub others : AreSeenFalse trail seen implied.lits lit

-- a literal, and behind it those of the others that are not spare
pub record IsMinimized (clauses : List (List Lit)) (trail : List Lit) (seen : List Bool) (lit : Lit) (lower : List Lit) (lits : List Lit) : Type 0 where
  pub rest : List Lit
  pub is : lits ≡ lit ∷ rest
  pub some : (other : Lit) → Contains rest other → Contains lower other
  pub left : (other : Lit) → Contains lower other → Contains rest other ⊎ IsSpare clauses trail seen (opposite_of other)
