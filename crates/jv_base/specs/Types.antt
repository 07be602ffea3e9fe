-- Types and descriptors as values of the program, and the descriptors that they stand for.
use Rattle.std.specs.Prelude.{ℕ, suc, List, Option, Some, None, map}
use Rattle.std.specs.Str.{IsUtf8}
use Rattle.jv_base.specs.declared.value.Ty.{Ty, fold-Ty}
use Rattle.jv_base.specs.declared.value.Ty.TheOpen.{Ty-F}
use Rattle.jv_base.specs.declared.value.Desc.{Desc}
use Rattle.jv_base.specs.Descriptor.{base, object, FieldType, MethodType, IsMethodDescriptor, IsFieldDescriptor}

abbrev primitive : ℕ → FieldType
primitive letter = record { dimensions = 0; element = base letter }

-- a primitive type by its letter, a class by its name, an array by one more dimension than its elements have
abbrev pub field_layer : Ty-F FieldType → FieldType
field_layer Ty-F.Boolean = primitive 90
field_layer Ty-F.Byte = primitive 66
field_layer Ty-F.Char = primitive 67
field_layer Ty-F.Short = primitive 83
field_layer Ty-F.Int = primitive 73
field_layer Ty-F.Long = primitive 74
field_layer Ty-F.Float = primitive 70
field_layer Ty-F.Double = primitive 68
field_layer (Ty-F.Class name) = record { dimensions = 0; element = object name }
field_layer (Ty-F.Array elements) = record { dimensions = suc elements.dimensions; element = elements.element }

abbrev pub field_of : Ty → FieldType
field_of t = fold-Ty FieldType field_layer t

abbrev pub result_of : Option Ty → Option FieldType
result_of None = None
result_of (Some t) = Some (field_of t)

abbrev pub method_of : Desc → MethodType
method_of d = record { parameters = map field_of d.params; result = result_of d.result }

-- the Unicode texts that are descriptors of methods, and those that are field types
abbrev pub IsDescriptorText : List ℕ → Type 0
IsDescriptorText text = IsUtf8 text × IsMethodDescriptor text

abbrev pub IsFieldText : List ℕ → Type 0
IsFieldText text = IsUtf8 text × IsFieldDescriptor text
