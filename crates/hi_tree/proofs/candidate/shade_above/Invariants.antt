-- The names that were passed are shaded, and no others.
use Rattle.std.proofs.Common.{◌-◌, length}
use Rattle.hi_tree.specs.declared.known.Up.TheVariants.{Supertypes}
use Rattle.hi_tree.specs.Supers.{names_above}
use Rattle.hi_tree.specs.Calls.Steps.{known_of}
use Rattle.hi_tree.specs.Calls.Walking.{mark_of}
use Rattle.hi_tree.proofs.ShadeLemmas.{ShadesBelow}
use Rattle.hi_tree.proofs.candidate.shade_above.Given as goal

abbrev pub invariant-loop-above : goal.invariant-loop-above
invariant-loop-above l =
    ShadesBelow l.place (names_above Supertypes (known_of l.class)) (mark_of l.initial.shaded) (mark_of l.shaded)

abbrev pub decreases-loop-above : goal.decreases-loop-above
decreases-loop-above l = length (names_above Supertypes (known_of l.class)) - l.place
