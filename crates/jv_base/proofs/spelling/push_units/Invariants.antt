-- The units so far are spelled.
use Rattle.std.proofs.Common.{◌≡◌, ◌++◌, string_bytes, take}
use Rattle.std.specs.List.{flat_map}
use Rattle.jv_base.specs.Spelling.{escaped_unit}
use Rattle.jv_base.proofs.spelling.push_units.Given as goal

abbrev pub invariant-loop-unit : goal.invariant-loop-unit
invariant-loop-unit l =
    string_bytes l.out ≡ string_bytes l.initial.out ++ flat_map escaped_unit (take l.unit-index l.units)
