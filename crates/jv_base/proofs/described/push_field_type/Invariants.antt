-- The brackets so far are written.
use Rattle.std.proofs.Common.{◌≡◌, ◌++◌, string_bytes}
use Rattle.jv_base.specs.Descriptor.{field_text}
use Rattle.jv_base.specs.Types.{field_of}
use Rattle.jv_base.proofs.described.push_field_type.Given as goal

abbrev pub invariant-loop-element : goal.invariant-loop-element
invariant-loop-element l = record {
  written : string_bytes l.out ++ field_text (field_of l.element)
      ≡ string_bytes l.initial.out ++ field_text (field_of l.initial.element);
}
