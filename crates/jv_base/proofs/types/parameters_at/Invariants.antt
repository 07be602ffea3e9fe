-- What is behind is field types, and what is left gets shorter.
use Rattle.std.proofs.Common.{◌≡◌, ◌++◌, length, map}
use Rattle.std.specs.List.{All, flat_map}
use Rattle.std.specs.Str.{IsUtf8}
use Rattle.jv_base.specs.Descriptor.{IsFieldType, field_text}
use Rattle.jv_base.specs.Types.{field_of}
use Rattle.jv_base.proofs.types.parameters_at.Given as goal

abbrev pub invariant-loop-parameters : goal.invariant-loop-parameters
invariant-loop-parameters l = record {
  unicode : IsUtf8 l.rest;
  valid : All IsFieldType (map field_of l.parameters);
  parts : l.text ≡ flat_map field_text (map field_of l.parameters) ++ l.rest;
}

abbrev pub decreases-loop-parameters : goal.decreases-loop-parameters
decreases-loop-parameters l = length l.rest
