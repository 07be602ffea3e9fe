-- A field type ends the text, or the text is none.
use Rattle.std.proofs.Common.{◌≡◌, ◌++◌, length, sym, ◌∙◌}
use Rattle.std.proofs.lemmas.Bool.{eqb-false}
use Rattle.jv_base.specs.Descriptor.{IsFieldType, field_text}
use Rattle.jv_base.specs.Types.{field_of}
use Rattle.jv_base.proofs.DescriptorLemmas.{HasNoField, field_rest, no_field_in}
use Rattle.jv_base.proofs.types.field_in.Goals as goal

pub returns-in_default-clause-none : goal.returns-in_default-clause-none
returns-in_default-clause-none c =
    let none : HasNoField c.args.text.now = rw c.in_default.is at c.in_ok-ty.ensures.none in
    no_field_in c.args.text.now none

pub returns-then-not-is_empty-clause-none : goal.returns-then-not-is_empty-clause-none
returns-then-not-is_empty-clause-none c =
    let found : IsFieldType (field_of c.in-Some.ty)
    × (c.args.text.now ≡ field_text (field_of c.in-Some.ty) ++ c.in-Some.rest.now) =
    rw c.in-Some.is at c.in_ok-ty.ensures.found in
    let some = eqb-false (length c.in-Some.rest.now) 0 (sym c.is_empty.ensures ∙ c.if-not-is_empty.true) in
    λ h. some (field_rest c.args.text.now c.in-Some.rest.now (field_of c.in-Some.ty) found.0 found.1 h)
