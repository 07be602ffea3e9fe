-- The names that were passed are in the list.
use Rattle.std.proofs.Common.{◌≡◌, ◌-◌, length, take}
use Rattle.hi_tree.specs.Supers.{names_above}
use Rattle.hi_tree.specs.Calls.Steps.{known_of}
use Rattle.hi_tree.proofs.names.names_of.Given as goal

abbrev pub invariant-loop-above : goal.invariant-loop-above
invariant-loop-above l = l.names ≡ take l.place (names_above l.up (known_of l.class))

abbrev pub decreases-loop-above : goal.decreases-loop-above
decreases-loop-above l = length (names_above l.up (known_of l.class)) - l.place
