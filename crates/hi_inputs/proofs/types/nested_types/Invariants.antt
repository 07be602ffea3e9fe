-- The types so far.
use Rattle.std.proofs.Common.{◌≡◌, map, take}
use Rattle.jv_base.specs.Types.{field_of}
use Rattle.hi_inputs.specs.Calls.Flat.{field_of_flat}
use Rattle.hi_inputs.proofs.types.nested_types.Given as goal

abbrev pub invariant-types : goal.invariant-types
invariant-types l = map field_of l.types ≡ map field_of_flat (take l.ty-index l.fn.flat)
