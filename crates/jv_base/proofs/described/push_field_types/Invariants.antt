-- What is left to write, behind what is written, is the whole.
use Rattle.std.proofs.Common.{◌≡◌, ◌++◌, string_bytes, map, drop}
use Rattle.std.specs.List.{flat_map}
use Rattle.jv_base.specs.Descriptor.{field_text}
use Rattle.jv_base.specs.Types.{field_of}
use Rattle.jv_base.proofs.described.push_field_types.Given as goal

abbrev pub invariant-loop-ty : goal.invariant-loop-ty
invariant-loop-ty l =
    string_bytes l.out ++ flat_map field_text (map field_of (drop l.ty-index l.types))
    ≡ string_bytes l.fn.out ++ flat_map field_text (map field_of l.types)
