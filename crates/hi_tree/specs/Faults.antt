-- The faults of walks.
use Rattle.std.specs.Prelude.{◌≡◌, ℕ, List}
use Rattle.hi_tree.specs.declared.fault.TreeFault.{TreeFault}
use Rattle.hi_tree.specs.declared.fault.TreeFault.TheVariants as faults
use Rattle.hi_tree.specs.Walks.{Climb, Stops, not_known, circular}

-- a walk meets a class that is not known, or comes to a class again as its own supertype, and does so first
abbrev pub IsWalkFault : Climb → List ℕ → TreeFault → Type 0
IsWalkFault w name (faults.NotLoaded missing) = Stops w name (not_known missing)
IsWalkFault w name faults.Circular = Stops w name circular
IsWalkFault w name faults.NoMemory = Unit {0}
IsWalkFault w name other = ⊥

-- a walk comes to its end: no fault stands but want of memory
abbrev pub IsUnhinderedWalk : Climb → List ℕ → Type 0
IsUnhinderedWalk w name = (fault : TreeFault) → IsWalkFault w name fault → fault ≡ faults.NoMemory
