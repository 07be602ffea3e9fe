-- What holds of a walk under way: what is marked (true: being climbed from; false: done), and the classes that are
-- being climbed
-- from, the last one first.
use Rattle.std.proofs.Common.{◌≡◌, ℕ, ◌<◌, ◌≤◌, Bool, true, false, List, [], ◌∷◌, ◌⊎◌, Contains, Some, None}
use Rattle.std.proofs.Common.{Option, length, map}
use Rattle.std.specs.Prelude.{slice_get}
use Rattle.hi_tree.specs.Walks.{Climb, IsAbove, IsClean, Stop, StopsAt, Stops}
use Rattle.hi_tree.specs.Calls.Steps.{Step, Marks}
use Rattle.hi_tree.specs.Calls.Walking.{IsOrdered}

abbrev pub names_of : List Step → List (List ℕ)
names_of steps = map (λ s. s.name) steps

module _ (w : Climb) (start : List ℕ) where
  -- `upper` is the class that is being climbed to from the step, `path` the classes below
  pub record IsStep (marks : Marks) (upper : Option (List ℕ)) (step : Step) (path : List (List ℕ)) : Type 0 where
    pub supers : step.above ≡ w.supers step.name
    pub known : w.known step.name ≡ true
    pub free : w.sought step.name ≡ false
    pub fresh : Contains path step.name → ⊥
    pub marked : marks step.name ≡ Some true
    pub within : step.next ≤ length step.above
    pub passed : (place : ℕ) (above : List ℕ) → place < step.next → slice_get step.above place ≡ Some above
        → (marks above ≡ Some false) ⊎ (upper ≡ Some above)
    pub leads : (stop : Stop) → StopsAt w path step.name stop → Stops w start stop

  unfoldable pub Stand : Marks → Option (List ℕ) → List Step → Type 0
  Stand marks upper [] = Unit {0}
  Stand marks upper (s ∷ ss) = IsStep marks upper s (names_of ss) × Stand marks (Some s.name) ss

  pub record IsUnderWay (marks : Marks) (steps : List Step) : Type 0 where
    pub mark : Bool
    pub begun : marks start ≡ Some mark
    pub on : (q : List ℕ) → marks q ≡ Some true → Contains (names_of steps) q
    pub done : (q : List ℕ) → marks q ≡ Some false → IsClean w q
    pub closed : (q : List ℕ) (place : ℕ) (above : List ℕ) → marks q ≡ Some false
        → slice_get (w.supers q) place ≡ Some above
        → marks above ≡ Some false
    pub reached : (q : List ℕ) (mark : Bool) → marks q ≡ Some mark → (q ≡ start) ⊎ IsAbove w.supers start q
    pub stand : Stand marks None steps

-- the classes that are done, each once and before those above it
pub record IsDone (w : Climb) (marks : Marks) (names : List (List ℕ)) : Type 0 where
  pub off : (q : List ℕ) → marks q ≡ Some false → Contains names q
  pub only : (q : List ℕ) → Contains names q → marks q ≡ Some false
  pub ordered : IsOrdered w.supers names

-- what is done stays done, and what is being climbed from stays so
abbrev pub Keeps : Marks → Marks → List Step → Type 0
Keeps old new steps = ((q : List ℕ) → old q ≡ Some false → new q ≡ Some false)
    × ((q : List ℕ) → Contains (names_of steps) q → old q ≡ Some true → new q ≡ Some true)
