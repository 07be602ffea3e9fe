-- Walks from a class to its supertypes: each class, and then those above it in order, each with those above it. A
-- walk stops at
-- the first class that is sought, that is not known, or that comes again as its own supertype.
use Rattle.std.specs.Prelude.{◌≡◌, ℕ, ◌<◌, Bool, true, false, List, [], ◌∷◌, Contains, slice_get, Some}

-- which classes are known, the names directly above each, in order, and which are sought
pub record Climb : Type 0 where
  pub known : List ℕ → Bool
  pub supers : List ℕ → List (List ℕ)
  pub sought : List ℕ → Bool

-- one class is above another: by one step, or by more
pub data IsAbove (supers : List ℕ → List (List ℕ)) : List ℕ → List ℕ → Type 0 where
  direct : (name above : List ℕ) (place : ℕ) → slice_get (supers name) place ≡ Some above → IsAbove supers name above
  further : (name above top : List ℕ) (place : ℕ) → slice_get (supers name) place ≡ Some above
      → IsAbove supers above top
      → IsAbove supers name top

-- the whole walk from a class stops nowhere: each class is known, none is sought, and none comes again as its own
-- supertype
pub data IsClean (w : Climb) : List ℕ → Type 0 where
  clean : (name : List ℕ) → w.known name ≡ true → w.sought name ≡ false
      → ((place : ℕ) (above : List ℕ) → slice_get (w.supers name) place ≡ Some above → IsClean w above)
      → IsClean w name

-- why a walk stops
pub data Stop : Type 0 where
  found : List ℕ → Stop
  not_known : List ℕ → Stop
  circular : Stop

-- where the walk from a class first stops: at this class, or above it, where the classes before stop nowhere; the
-- path has the
-- classes that were climbed from
pub data StopsAt (w : Climb) : List (List ℕ) → List ℕ → Stop → Type 0 where
  again : (path : List (List ℕ)) (name : List ℕ) → Contains path name → StopsAt w path name circular
  missing : (path : List (List ℕ)) (name : List ℕ) → (Contains path name → ⊥) → w.known name ≡ false
      → StopsAt w path name (not_known name)
  here : (path : List (List ℕ)) (name : List ℕ) → (Contains path name → ⊥) → w.known name ≡ true
      → w.sought name ≡ true
      → StopsAt w path name (found name)
  higher : (path : List (List ℕ)) (name : List ℕ) (place : ℕ) (above : List ℕ) (stop : Stop)
      → (Contains path name → ⊥)
      → w.known name ≡ true → w.sought name ≡ false → slice_get (w.supers name) place ≡ Some above
      → ((earlier : ℕ) (before : List ℕ) → earlier < place → slice_get (w.supers name) earlier ≡ Some before
      → IsClean w before)
      → StopsAt w (name ∷ path) above stop → StopsAt w path name stop

-- the walk from a class first stops there
abbrev pub Stops : Climb → List ℕ → Stop → Type 0
Stops w name stop = StopsAt w [] name stop
