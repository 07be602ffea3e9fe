-- Those before a place are followed.
use Rattle.std.proofs.Common.{map, ◌-◌}
use Rattle.hi_inputs.specs.Calls.Flat.{field_of_flat}
use Rattle.hi_inputs.specs.Calls.Below.{IsBelow}
use Rattle.hi_inputs.specs.Calls.Sets.{Deepening}
use Rattle.hi_inputs.proofs.types.deepen.Given as goal

abbrev pub invariant-places : goal.invariant-places
invariant-places l =
    Deepening (IsBelow l.fn.classes) (map field_of_flat l.fn.found.keys) l.fn.from l.place
    (map field_of_flat l.found.keys)

abbrev pub decreases-places : goal.decreases-places
decreases-places l = l.end - l.place
