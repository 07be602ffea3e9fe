-- For private functions and proofs alone: what the steps of a walk do.
use Rattle.std.specs.Prelude.{◌≡◌, ℕ, Bool, true, false, List, [], ◌∷◌, ◌⊎◌, Some, None}
use Rattle.std.specs.Prelude.{map, reverse, ◌↔◌, slice_get, Contains}
use Rattle.std.specs.Borrow.{Bor}
use Rattle.std.specs.HashMap.{HashMap, get_by}
use Rattle.std.specs.Str.{bytes_eq}
use Rattle.hi_tree.specs.declared.known.Above.{Above}
use Rattle.hi_tree.specs.declared.known.Up.{Up}
use Rattle.hi_tree.specs.declared.walk.Frame.{Frame}
use Rattle.hi_tree.specs.declared.walk.Walk.{Walk}
use Rattle.hi_tree.specs.declared.walk.Next.{Next}
use Rattle.hi_tree.specs.declared.walk.Next.TheVariants as next
use Rattle.hi_tree.specs.declared.walk.Walked.{Walked}
use Rattle.hi_tree.specs.declared.walk.Walked.TheVariants as walked
use Rattle.hi_tree.specs.declared.fault.TreeFault.{TreeFault}
use Rattle.hi_tree.specs.declared.fault.TreeFault.TheVariants as faults
use Rattle.hi_tree.specs.Supers.{names_above}
use Rattle.hi_tree.specs.Walks.{Climb, IsAbove, IsClean, Stops, found}
use Rattle.hi_tree.specs.Calls.Steps.{above_name, known_of, Step, climbed, Marks, IsMarked}

abbrev pub step_of : Up → Frame → Step
step_of up f = record { name = above_name f.name; above = names_above up (known_of f.class); next = f.next }

-- the last one first
abbrev pub steps_of : Up → List Frame → List Step
steps_of up frames = reverse (map (step_of up) frames)

abbrev pub mark_of : {S : Type 0} → HashMap (Bor (List ℕ)) Bool S → Marks
mark_of m name = get_by (λ k. bytes_eq name k.now) m

-- the classes that are done, the last one first
abbrev pub names_met : List Above → List (List ℕ)
names_met done = reverse (map above_name done)

-- a walk comes to a class: it was met before, and is done, or it is climbed from next
abbrev pub Passes : Climb → Up → List ℕ → Walk → Walk → Type 0
Passes w up name old new =
    ((mark_of old.marks name ≡ Some false) × (new ≡ old))
    ⊎ ((mark_of old.marks name ≡ None) × (w.known name ≡ true) × (w.sought name ≡ false)
    × IsMarked (mark_of old.marks) name true (mark_of new.marks)
    × (steps_of up new.frames ≡ record { name = name; above = w.supers name; next = 0 } ∷ steps_of up old.frames)
    × (new.done ≡ old.done))

-- or it is sought
abbrev pub Comes : Climb → Up → List ℕ → Walk → Walk → Bool → Type 0
Comes w up name old new true = (mark_of old.marks name ≡ None) × (w.known name ≡ true) × (w.sought name ≡ true)
Comes w up name old new false = Passes w up name old new

-- or the walk stops at it
abbrev pub FailsAt : Climb → List ℕ → Walk → TreeFault → Type 0
FailsAt w name old (faults.NotLoaded missing) = (mark_of old.marks name ≡ None) × (w.known name ≡ false)
    × (missing ≡ name)
FailsAt w name old faults.Circular = mark_of old.marks name ≡ Some true
FailsAt w name old faults.NoMemory = Unit {0}
FailsAt w name old other = ⊥

-- the class that is climbed from leads on to the next class above it, or there is none left
abbrev pub Leads : Up → Walk → Walk → Next → Type 0
Leads up old new (next.Above above) =
    (s : Step) × (ss : List Step) × (steps_of up old.frames ≡ s ∷ ss)
    × (slice_get s.above s.next ≡ Some (above_name above))
    × (steps_of up new.frames ≡ climbed s ∷ ss) × (new.marks ≡ old.marks) × (new.done ≡ old.done)
Leads up old new next.Left =
    (s : Step) × (ss : List Step) × (steps_of up old.frames ≡ s ∷ ss) × (slice_get s.above s.next ≡ None)
    × (steps_of up new.frames ≡ ss) × IsMarked (mark_of old.marks) s.name false (mark_of new.marks)
    × (names_met new.done ≡ s.name ∷ names_met old.done)
Leads up old new next.Over = (steps_of up old.frames ≡ []) × (new ≡ old)

-- each name once, and the names directly above one behind it
unfoldable pub IsOrdered : (List ℕ → List (List ℕ)) → List (List ℕ) → Type 0
IsOrdered supers [] = Unit {0}
IsOrdered supers (n ∷ ns) = (Contains ns n → ⊥)
    × ((place : ℕ) (above : List ℕ) → slice_get (supers n) place ≡ Some above → Contains ns above)
    × IsOrdered supers ns

-- the names that a whole walk met: the class and all that are above it, in such an order
pub record IsMet (w : Climb) (start : List ℕ) (names : List (List ℕ)) : Type 0 where
  pub clean : IsClean w start
  pub members : (q : List ℕ) → Contains names q ↔ ((q ≡ start) ⊎ IsAbove w.supers start q)
  pub ordered : IsOrdered w.supers names

abbrev pub IsWalked : Climb → List ℕ → Walked → Type 0
IsWalked w start (walked.Found above) = Stops w start (found (above_name above))
IsWalked w start (walked.Clean done) = IsMet w start (names_met done)
