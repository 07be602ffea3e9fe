use Rattle.std.proofs.Common.{◌∙◌, ap, refl}
use Rattle.std.specs.Option.{option_map}
use Rattle.vm_world.specs.declared.fields.Slot.{Slot}
use Rattle.vm_world.specs.Fields.{is_field, slot_of_field}
use Rattle.vm_world.proofs.ChangeLemmas.{find_changed, find_other, map_changed}
use Rattle.vm_world.proofs.FieldLemmas.{other_field, given_value}
use Rattle.vm_world.proofs.laws.field_laws.Goals as goal

pub returns-clause-read : goal.returns-clause-read
returns-clause-read c =
    λ fields field value some.
    ap (option_map (λ (slot : Slot). slot.value))
    (find_changed (λ slot. is_field slot.field field) (λ slot. record slot { value = value }) (λ slot. refl) fields)
    ∙ given_value value (slot_of_field fields field) some

pub returns-clause-others : goal.returns-clause-others
returns-clause-others c =
    λ fields field other value ne.
    ap (option_map (λ (slot : Slot). slot.value))
    (find_other (λ slot. is_field slot.field field) (λ slot. record slot { value = value })
    (λ slot. is_field slot.field other)
    (λ slot is. (other_field slot.field field other ne is, other_field slot.field field other ne is)) fields)

pub returns-clause-fields : goal.returns-clause-fields
returns-clause-fields c =
    λ fields field value.
    map_changed (λ slot. is_field slot.field field) (λ slot. record slot { value = value }) (λ slot. slot.field)
    (λ slot. refl) fields
