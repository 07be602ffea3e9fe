-- What is read from descriptors, in the terms of the types that they describe (JVM Specification SE 8, 4.3).
use Rattle.std.specs.Prelude.{◌≡◌, ℕ, zero, suc, ◌==◌, ◌||◌, List, [], ◌∷◌, Option, Some, None, if◌then◌else◌, option_map}
use Rattle.std.specs.Prelude.{option_and_then}
use Rattle.jv_base.specs.Descriptor.{ElementType, base, object, FieldType, IsFieldType, field_text, MethodType}
use Rattle.jv_base.specs.Descriptor.{IsMethodType, method_text}
use Rattle.ck_shapes.specs.declared.shape.ValueType.{ValueType}
use Rattle.ck_shapes.specs.declared.shape.ValueType.TheVariants.{Int, Long, Reference}
use Rattle.ck_shapes.specs.declared.signature.Signature.{Signature}
use Rattle.ck_shapes.specs.Descriptors.{field_type, signature}

-- long, `J`, is a long; float and double, `F` and `D`, are outside the profile; the other base types are ints, and a
-- class is a reference
abbrev pub element_value : ElementType → Option ValueType
element_value (base letter) = if letter == 74 then Some Long else (if (letter == 70) || (letter == 68) then None else Some Int)
element_value (object name) = Some Reference

-- with so many dimensions, an array is a reference
abbrev pub array_value : ℕ → Option ValueType → Option ValueType
array_value zero element = element
array_value (suc n) element = Some Reference

abbrev pub field_value : FieldType → Option ValueType
field_value t = array_value t.dimensions (element_value t.element)

-- the types of all, where each has one
abbrev pub field_values : List FieldType → Option (List ValueType)
field_values [] = Some []
field_values (t ∷ ts) = option_and_then (λ v. option_map (λ vs. v ∷ vs) (field_values ts)) (field_value t)

abbrev pub result_value : Option FieldType → Option (Option ValueType)
result_value None = Some None
result_value (Some t) = option_map (λ v. Some v) (field_value t)

abbrev pub method_value : MethodType → Option Signature
method_value m =
    option_and_then (λ ps. option_map (λ r. record { parameters = ps; result = r }) (result_value m.result))
    (field_values m.parameters)

pub record Signatures : Type 0 where
  pub field : (t : FieldType) → IsFieldType t → field_type (field_text t) ≡ field_value t
  pub method : (m : MethodType) → IsMethodType m → signature (method_text m) ≡ method_value m
