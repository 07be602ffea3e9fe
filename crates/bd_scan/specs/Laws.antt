-- What holds of the definitions, in the terms of descriptors (JVM Specification SE 8, 4.3).
use Rattle.std.specs.Prelude.{◌≡◌, ℕ, ◌<◌, ◌||◌, ◌==◌, Bool, false, List, Option, Some, None}
use Rattle.std.specs.Prelude.{option_to_list}
use Rattle.std.specs.List.{list_any}
use Rattle.jv_base.specs.Names.{IsClassName}
use Rattle.jv_base.specs.Descriptor.{ElementType, base, object, FieldType, IsFieldType, field_text, MethodType}
use Rattle.jv_base.specs.Descriptor.{IsMethodType, method_text}
use Rattle.bd_scan.specs.Descriptors.{named_class, has_float}

-- the class of the elements of an array, in the end
abbrev pub element_class : ElementType → Option (List ℕ)
element_class (base letter) = None
element_class (object name) = Some name

-- a class names itself, and an array the class of its elements in the end
pub record ClassNames : Type 0 where
  pub class : (name : List ℕ) → IsClassName name → named_class name ≡ Some name
  pub array : (t : FieldType) → IsFieldType t → 0 < t.dimensions → named_class (field_text t) ≡ element_class t.element

-- float or double
abbrev pub is_real : ElementType → Bool
is_real (base letter) = (letter == 70) || (letter == 68)
is_real (object name) = false

-- a type is float or double, or an array of them
abbrev pub has_real : FieldType → Bool
has_real t = is_real t.element

-- a descriptor has a float where a type in it is float or double, or an array of them
pub record FloatDescriptors : Type 0 where
  pub field : (t : FieldType) → IsFieldType t → has_float (field_text t) ≡ has_real t
  pub method : (m : MethodType) → IsMethodType m
      → has_float (method_text m) ≡ (list_any has_real m.parameters || list_any has_real (option_to_list m.result))
