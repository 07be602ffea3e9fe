-- The classes among the types so far.
use Rattle.std.proofs.Common.{map, take}
use Rattle.hi_inputs.specs.Calls.Flat.{field_of_flat}
use Rattle.hi_inputs.specs.Calls.Made.{AreMadeAmong}
use Rattle.hi_inputs.proofs.classes.made_among.Given as goal

abbrev pub invariant-types : goal.invariant-types
invariant-types l = AreMadeAmong l.fn.classes (map field_of_flat (take l.ty-index l.fn.types)) l.found.keys
