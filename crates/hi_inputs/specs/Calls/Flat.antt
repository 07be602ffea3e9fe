-- For private functions and proofs alone: types as keys of sets.
use Rattle.std.specs.Prelude.{◌↔◌, ◌⊎◌, List, Contains, map}
use Rattle.jv_base.specs.Descriptor.{ElementType, base, object, FieldType}
use Rattle.hi_inputs.specs.declared.flat.Element.{Element}
use Rattle.hi_inputs.specs.declared.flat.Element.TheVariants as elements
use Rattle.hi_inputs.specs.declared.flat.FlatType.{FlatType}

abbrev pub element_of : Element → ElementType
element_of elements.Boolean = base 90
element_of elements.Byte = base 66
element_of elements.Char = base 67
element_of elements.Short = base 83
element_of elements.Int = base 73
element_of elements.Long = base 74
element_of elements.Float = base 70
element_of elements.Double = base 68
element_of (elements.Class name) = object name

abbrev pub field_of_flat : FlatType → FieldType
field_of_flat f = record { dimensions = f.dimensions; element = element_of f.element }

-- a list has exactly the types that a rule allows
abbrev pub AreTypes : (FieldType → Type 0) → List FlatType → Type 0
AreTypes rule types = (t : FieldType) → Contains (map field_of_flat types) t ↔ rule t

-- a list has the types that it had, and those that a rule allows
abbrev pub AddsTypes : (FieldType → Type 0) → List FlatType → List FlatType → Type 0
AddsTypes rule old new =
    (t : FieldType) → Contains (map field_of_flat new) t ↔ (Contains (map field_of_flat old) t ⊎ rule t)
