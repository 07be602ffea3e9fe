-- The length of an array (JVM Specification SE 8, 6.5: arraylength).
use Rattle.std.specs.Prelude.{ℕ, pos, ◌^◌, nat_lt, if◌then◌else◌, List, length, Option, Some, None}
use Rattle.jv_base.specs.declared.method.Kind.TheVariants.{Null}
use Rattle.jv_base.specs.declared.value.Value.{Value}
use Rattle.jv_base.specs.declared.value.Value.TheVariants.{Int}
use Rattle.vm_world.specs.declared.object.Object.{Object}
use Rattle.vm_world.specs.declared.object.Object.TheVariants.{Instance, Array, Text}
use Rattle.vm_world.specs.Heap.{object_at}
use Rattle.vm_object.specs.declared.effect.ArrayEffect.{ArrayEffect}
use Rattle.vm_object.specs.declared.effect.ArrayEffect.TheVariants.{Gives, Raises, Sticks}
use Rattle.vm_frame.specs.Operands.{top, reference_in}

-- no array has more elements than an int tells
abbrev pub counted : ℕ → ArrayEffect
counted n = if nat_lt n (2 ^ 31) then Gives 1 (Int (pos n)) else Sticks

abbrev pub length_of : Object → ArrayEffect
length_of (Instance class fields) = Sticks
length_of (Array descriptor elements) = counted (length elements)
length_of (Text kind units) = Sticks

abbrev pub length_found : Option Object → ArrayEffect
length_found None = Sticks
length_found (Some object) = length_of object

-- a reference is taken; null raises null, and an object that is no array is stuck
abbrev pub length_given : List Object → Option (Option ℕ) → ArrayEffect
length_given heap None = Sticks
length_given heap (Some None) = Raises Null
length_given heap (Some (Some number)) = length_found (object_at heap number)

abbrev pub length_effect : List Value → List Object → ArrayEffect
length_effect stack heap = length_given heap (reference_in (top stack))
