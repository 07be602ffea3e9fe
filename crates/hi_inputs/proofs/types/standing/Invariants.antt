-- The types of the levels so far are found, and those of the levels before are followed.
use Rattle.std.proofs.Common.{map, ◌-◌, ◌≤◌}
use Rattle.hi_inputs.specs.Types.{StandsWithin}
use Rattle.hi_inputs.specs.Calls.Flat.{field_of_flat}
use Rattle.hi_inputs.specs.Calls.Below.{IsBelow}
use Rattle.hi_inputs.proofs.LevelLemmas.{IsLevel}
use Rattle.hi_inputs.proofs.types.standing.Given as goal

abbrev pub invariant-levels : goal.invariant-levels
invariant-levels l =
    IsLevel (IsBelow l.fn.classes) (StandsWithin l.fn.classes l.fn.entry l.fn.depth) l.level l.from
    (map field_of_flat l.found.keys) × (1 ≤ l.level) × (l.level ≤ l.fn.depth)

abbrev pub decreases-levels : goal.decreases-levels
decreases-levels l = l.fn.depth - l.level
