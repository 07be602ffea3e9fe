-- What objects hold, and what a store changes of one.
use Rattle.std.specs.Prelude.{ℕ, List, Option, Some, None, slice_get, slice_set}
use Rattle.jv_base.specs.declared.method.FieldId.{FieldId}
use Rattle.jv_base.specs.declared.value.Value.{Value}
use Rattle.vm_world.specs.declared.object.Object.{Object}
use Rattle.vm_world.specs.declared.object.Object.TheVariants.{Instance, Array, Text}
use Rattle.vm_world.specs.Fields.{value_in, with_value}

-- the value of a field of an object, if it has the field
abbrev pub field_of : Object → FieldId → Option Value
field_of (Instance class fields) field = value_in fields field
field_of (Array element elements) field = None
field_of (Text kind units) field = None

-- the object with another value of a field, and as it was where it has it not
abbrev pub with_field : Object → FieldId → Value → Object
with_field (Instance class fields) field value = Instance class (with_value fields field value)
with_field (Array element elements) field value = Array element elements
with_field (Text kind units) field value = Text kind units

-- the element at a place of an array, if it has the place
abbrev pub element_of : Object → ℕ → Option Value
element_of (Instance class fields) place = None
element_of (Array element elements) place = slice_get elements place
element_of (Text kind units) place = None

-- the object with another element at a place, and as it was where it has it not
abbrev pub with_element : Object → ℕ → Value → Object
with_element (Instance class fields) place value = Instance class fields
with_element (Array element elements) place value = Array element (slice_set elements place value)
with_element (Text kind units) place value = Text kind units

-- the content of a String or a StringBuilder
abbrev pub text_of : Object → Option (List ℕ)
text_of (Instance class fields) = None
text_of (Array element elements) = None
text_of (Text kind units) = Some units

-- the object with another content, and as it was where it is no text
abbrev pub with_text : Object → List ℕ → Object
with_text (Instance class fields) units = Instance class fields
with_text (Array element elements) units = Array element elements
with_text (Text kind old) units = Text kind units
