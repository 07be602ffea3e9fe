-- Arrays of the heap, and places in them.
use Rattle.std.specs.Prelude.{ℕ, ℤ, pos, negsuc, if◌then◌else◌, List, Option, Some, None, Result, Ok, Err}
use Rattle.jv_base.specs.declared.method.Kind.TheVariants.{Null}
use Rattle.jv_base.specs.declared.value.Value.{Value}
use Rattle.cf_code.specs.declared.array.Element.{Element}
use Rattle.vm_world.specs.declared.object.Object.{Object}
use Rattle.vm_world.specs.declared.object.Object.TheVariants.{Instance, Array, Text}
use Rattle.vm_world.specs.Heap.{object_at, of_object, element_at}
use Rattle.vm_object.specs.declared.element.ElementType.{ElementType}
use Rattle.vm_object.specs.declared.effect.ArrayEffect.{ArrayEffect}
use Rattle.vm_object.specs.declared.effect.ArrayEffect.TheVariants.{Raises, Sticks}
use Rattle.vm_object.specs.ElementTypes.{element_type, takes}

-- the descriptor of the element type of an array
abbrev pub descriptor_of : Object → Option (List ℕ)
descriptor_of (Instance class fields) = None
descriptor_of (Array descriptor elements) = Some descriptor
descriptor_of (Text kind units) = None

abbrev pub element_descriptor : List Object → ℕ → Option (List ℕ)
element_descriptor heap number = of_object descriptor_of (object_at heap number)

-- the element type of an array, if a load or a store takes the array
abbrev pub taken_type : Element → Option ElementType → Option ElementType
taken_type element None = None
taken_type element (Some held) = if takes element held then Some held else None

abbrev pub taken : Element → Option (List ℕ) → Option ElementType
taken element None = None
taken element (Some descriptor) = taken_type element (element_type descriptor)

-- the number of an array with its element type, where there is one
abbrev pub or_sticks : ℕ → Option ElementType → Result (ℕ × ElementType) ArrayEffect
or_sticks number None = Err Sticks
or_sticks number (Some held) = Ok (number, held)

-- what a load or a store works on: null raises null; a reference to no array, or to one that the instruction does not take,
-- is stuck
abbrev pub array_for : List Object → Element → Option ℕ → Result (ℕ × ElementType) ArrayEffect
array_for heap element None = Err (Raises Null)
array_for heap element (Some number) = or_sticks number (taken element (element_descriptor heap number))

-- the element at an index, which may be outside
abbrev pub element_in : List Object → ℕ → ℤ → Option Value
element_in heap number (pos i) = element_at heap number i
element_in heap number (negsuc i) = None
