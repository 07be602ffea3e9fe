-- The type of a field is the one with its text.
use Rattle.std.proofs.Common.{◌≡◌, false, rules}
use Rattle.std.proofs.lemmas.Result.{on_ok_weaker}
use Rattle.jv_base.specs.Types.{field_of}
use Rattle.hi_tree.specs.Members.{has_flag}
use Rattle.hi_inputs.proofs.FieldLemmas.{adds_read}
use Rattle.hi_inputs.proofs.fields.put_field.Goals as goal

pub returns-in_ok-flat_type-in-Ok : goal.returns-in_ok-flat_type-in-Ok
returns-in_ok-flat_type-in-Ok c =
    let plain : has_flag c.args.field.now.flags 0x0008 ≡ false = search rules in
    on_ok_weaker c.add.result
    (adds_read c.args.field.now c.args.out.now c.add.new.self (field_of c.in-Ok.ty) _ c.one_form.ensures.field plain
    c.in-Ok.ensures.found c.in_ok-flat_type-in-Ok.ensures) c.add.ensures.ok
