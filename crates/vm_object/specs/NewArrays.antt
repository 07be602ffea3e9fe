-- The instructions that make an array (JVM Specification SE 8, 6.5: newarray, anewarray).
use Rattle.std.specs.Prelude.{ℕ, ℤ, pos, negsuc, nat_le, if◌then◌else◌, List, Option, Some, None}
use Rattle.jv_base.specs.declared.method.Kind.TheVariants.{NegSize}
use Rattle.jv_base.specs.declared.value.Value.{Value}
use Rattle.vm_object.specs.declared.element.ElementType.{ElementType}
use Rattle.vm_object.specs.declared.effect.ArrayEffect.{ArrayEffect}
use Rattle.vm_object.specs.declared.effect.ArrayEffect.TheVariants.{Makes, Raises, Sticks, Leaves}
use Rattle.vm_frame.specs.Operands.{top, int_in}
use Rattle.vm_object.specs.ElementTypes.{element_type, default_value}

-- so many elements: a negative number raises negsize, before the bound is looked at; what is longer than the bound leaves
abbrev pub made : List ℕ → ℕ → Value → ℤ → ArrayEffect
made descriptor bound value (negsuc n) = Raises NegSize
made descriptor bound value (pos n) = if nat_le n bound then Makes descriptor n value else Leaves

-- the number is taken
abbrev pub made_given : List ℕ → ℕ → Value → Option ℤ → ArrayEffect
made_given descriptor bound value None = Sticks
made_given descriptor bound value (Some count) = made descriptor bound value count

-- arrays of floats and doubles are not supported
abbrev pub made_typed : List ℕ → ℕ → List Value → Option ElementType → ArrayEffect
made_typed descriptor bound stack None = Sticks
made_typed descriptor bound stack (Some held) = made_given descriptor bound (default_value held) (int_in (top stack))

-- by the descriptor of the element type, where the instruction names one
abbrev pub make_effect : Option (List ℕ) → ℕ → List Value → ArrayEffect
make_effect None bound stack = Sticks
make_effect (Some descriptor) bound stack = made_typed descriptor bound stack (element_type descriptor)
