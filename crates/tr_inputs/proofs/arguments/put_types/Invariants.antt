-- The types so far were put.
use Rattle.std.proofs.Common.{◌≡◌, ◌++◌, map, take}
use Rattle.jv_base.specs.Descriptor.{field_text}
use Rattle.jv_base.specs.Types.{field_of}
use Rattle.tr_inputs.proofs.arguments.put_types.Given as goal

abbrev pub invariant-loop-ty : goal.invariant-loop-ty
invariant-loop-ty l = l.out ≡ l.initial.out ++ map field_text (map field_of (take l.ty-index l.types))
