-- Fields with their values, found by class, name and descriptor (JVM Specification SE 8, 4.3.2 and 5.4.3.2).
use Rattle.std.specs.Prelude.{◌&&◌, ℕ, Bool, List, Option}
use Rattle.std.specs.List.{position, find}
use Rattle.std.specs.Option.{option_map}
use Rattle.std.specs.Str.{bytes_eq}
use Rattle.jv_base.specs.declared.method.FieldId.{FieldId}
use Rattle.jv_base.specs.declared.value.Value.{Value}
use Rattle.vm_world.specs.declared.fields.Slot.{Slot}
use Rattle.vm_world.specs.Lists.{change_first}

-- whether two fields have one name, class and descriptor
abbrev pub is_field : FieldId → FieldId → Bool
is_field a b = bytes_eq a.name b.name && bytes_eq a.class b.class && bytes_eq a.desc b.desc

-- the first place of a field
abbrev pub place_of_field : List Slot → FieldId → Option ℕ
place_of_field slots field = position (λ slot. is_field slot.field field) slots

-- the first of the slots of a field, if there is one
abbrev pub slot_of_field : List Slot → FieldId → Option Slot
slot_of_field slots field = find (λ slot. is_field slot.field field) slots

-- the value of a field, if it is there; the first one's, where it stands more than once
abbrev pub value_in : List Slot → FieldId → Option Value
value_in slots field = option_map (λ slot. slot.value) (slot_of_field slots field)

-- the fields with another value of the first one of these names, and as they were where there is none
abbrev pub with_value : List Slot → FieldId → Value → List Slot
with_value slots field value =
    change_first (λ slot. is_field slot.field field) (λ slot. record slot { value = value }) slots
