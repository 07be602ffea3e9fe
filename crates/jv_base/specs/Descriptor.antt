-- Descriptors of methods, by their UTF-8 bytes (JVM Specification SE 8, 4.3.2 and 4.3.3).
use Rattle.std.specs.Prelude.{◌≡◌, ℕ, ◌≤◌, Bool, ◌==◌, List, ◌++◌, [], ◌∷◌, Option, Some, None, IfSome, IsTrue, All, replicate, codes}
use Rattle.std.specs.List.{flat_map, list_any}
use Rattle.jv_base.specs.Names.{IsClassName}

-- what the elements of an array are in the end, or a type that is no array: a base type by its letter, or a class by its name
pub data ElementType : Type 0 where
  base : ℕ → ElementType
  object : List ℕ → ElementType

-- a field type, by the number of its dimensions, which is 0 where it is no array
pub record FieldType : Type 0 where
  pub dimensions : ℕ
  pub element : ElementType

-- what a method takes and returns; no result is `void`
pub record MethodType : Type 0 where
  pub parameters : List FieldType
  pub result : Option FieldType

-- the letters of byte, char, double, float, int, long, short and boolean
abbrev pub is_base_letter : ℕ → Bool
is_base_letter letter = list_any (λ b. b == letter) (codes "BCDFIJSZ")

abbrev pub IsElementType : ElementType → Type 0
IsElementType (base letter) = IsTrue (is_base_letter letter)
IsElementType (object name) = IsClassName name

-- a field type has at most 255 dimensions
abbrev pub IsFieldType : FieldType → Type 0
IsFieldType t = (t.dimensions ≤ 255) × IsElementType t.element

abbrev pub IsMethodType : MethodType → Type 0
IsMethodType m = All IsFieldType m.parameters × IfSome m.result IsFieldType

-- a class name and `;`
abbrev pub class_text : List ℕ → List ℕ
class_text name = name ++ codes ";"

-- a letter, or `L`, the name of the class and `;`
abbrev pub element_text : ElementType → List ℕ
element_text (base letter) = letter ∷ []
element_text (object name) = codes "L" ++ class_text name

-- a `[` for each dimension, and then the element
abbrev pub field_text : FieldType → List ℕ
field_text t = replicate t.dimensions 91 ++ element_text t.element

abbrev pub result_text : Option FieldType → List ℕ
result_text None = codes "V"
result_text (Some t) = field_text t

-- the parameters in parentheses, and then the result
abbrev pub method_text : MethodType → List ℕ
method_text m = codes "(" ++ flat_map field_text m.parameters ++ codes ")" ++ result_text m.result

-- the text is that of some method type
abbrev pub IsMethodDescriptor : List ℕ → Type 0
IsMethodDescriptor text = (m : MethodType) × IsMethodType m × (text ≡ method_text m)

-- the text is that of some field type (JVM Specification SE 8, 4.3.2)
abbrev pub IsFieldDescriptor : List ℕ → Type 0
IsFieldDescriptor text = (t : FieldType) × IsFieldType t × (text ≡ field_text t)
