-- The heap as the list of its objects. Their numbers count from 1, in the order in which they were made.
use Rattle.std.specs.Prelude.{◌==◌, ◌-◌, ℕ, List, Option, Some, None, slice_get, slice_set, if◌then◌else◌}
use Rattle.jv_base.specs.declared.method.FieldId.{FieldId}
use Rattle.jv_base.specs.declared.value.Value.{Value}
use Rattle.vm_world.specs.declared.object.Object.{Object}
use Rattle.vm_world.specs.Objects.{field_of, element_of, text_of}

-- the object of a number
abbrev pub object_at : List Object → ℕ → Option Object
object_at heap number = if number == 0 then None else slice_get heap (number - 1)

-- what a function gives of an object, if there is one
abbrev pub of_object : {A : Type 0} → (Object → Option A) → Option Object → Option A
of_object f None = None
of_object f (Some object) = f object

-- the value of a field of the object of a number
abbrev pub field_at : List Object → ℕ → FieldId → Option Value
field_at heap number field = of_object (λ object. field_of object field) (object_at heap number)

-- the element at a place of the array of a number
abbrev pub element_at : List Object → ℕ → ℕ → Option Value
element_at heap number place = of_object (λ object. element_of object place) (object_at heap number)

-- the content of the String or StringBuilder of a number
abbrev pub text_at : List Object → ℕ → Option (List ℕ)
text_at heap number = of_object text_of (object_at heap number)

-- the heap with another object in the place of one
abbrev pub in_place : List Object → ℕ → (Object → Object) → Option Object → List Object
in_place heap number change None = heap
in_place heap number change (Some object) = slice_set heap (number - 1) (change object)

-- the heap in which the object of a number is changed; where there is none, as it was
abbrev pub changed : List Object → ℕ → (Object → Object) → List Object
changed heap number change = in_place heap number change (object_at heap number)
