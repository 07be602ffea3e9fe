-- Unit propagation, as the least set of literals that is closed under it.
use Rattle.std.specs.Prelude.{◌≡◌, List, Contains, map}
use Rattle.cn_clauses.specs.declared.lit.Lit.{Lit}
use Rattle.cn_clauses.specs.Literals.{opposite_of}

-- the least set of literals that holds those of a start, and that holds a literal of a clause whenever it holds the
-- opposites of all its other literals; a literal that stands more than once in a clause counts as one
pub data IsForced (clauses : List (List Lit)) (start : List Lit) : Lit → Type 0 where
  Started : (lit : Lit) → Contains start lit → IsForced clauses start lit
  Propagated : (lits : List Lit) (lit : Lit) → Contains clauses lits → Contains lits lit
      → ((other : Lit) → Contains lits other → (other ≡ lit → ⊥) → IsForced clauses start (opposite_of other))
      → IsForced clauses start lit

-- the opposites of literals
abbrev pub opposites_of : List Lit → List Lit
opposites_of lits = map opposite_of lits

-- unit propagation from a start opposes each literal of some clause
pub record IsConflict (clauses : List (List Lit)) (start : List Lit) : Type 0 where
  pub lits : List Lit
  pub stands : Contains clauses lits
  pub opposed : (lit : Lit) → Contains lits lit → IsForced clauses start (opposite_of lit)

-- unit propagation from the opposites of a clause's literals opposes each literal of some clause
abbrev pub Rup : List (List Lit) → List Lit → Type 0
Rup clauses lits = IsConflict clauses (opposites_of lits)
