-- The stores into arrays (JVM Specification SE 8, 6.5: iastore, lastore, aastore, bastore, castore, sastore).
use Rattle.std.specs.Prelude.{ℕ, ℤ, Bool, true, if◌then◌else◌, List, Option, Some, None, Result, Ok, Err, unsigned_abs}
use Rattle.jv_base.specs.declared.method.Kind.TheVariants.{Bounds, Store}
use Rattle.jv_base.specs.declared.value.Value.{Value}
use Rattle.jv_base.specs.declared.value.Value.TheVariants.{Int, Long, Ref}
use Rattle.cf_code.specs.declared.array.Element.{Element}
use Rattle.cf_code.specs.Kinds.{is_judged}
use Rattle.vm_world.specs.declared.object.Object.{Object}
use Rattle.vm_object.specs.declared.element.ElementType.{ElementType}
use Rattle.vm_object.specs.declared.operand.StoreOperands.{StoreOperands}
use Rattle.vm_object.specs.declared.effect.ArrayEffect.{ArrayEffect}
use Rattle.vm_object.specs.declared.effect.ArrayEffect.TheVariants.{Puts, Raises, Sticks}
use Rattle.vm_object.specs.ElementTypes.{holds, narrowed}
use Rattle.vm_object.specs.Operands.{store_operands}
use Rattle.vm_object.specs.Places.{array_for, element_in}

-- whether a value may stand in an array: null always, an object where it suits the element type
abbrev pub may_stand : Value → Bool → Bool
may_stand (Ref (Some number)) suits = suits
may_stand (Ref None) suits = true
may_stand (Int n) suits = true
may_stand (Long n) suits = true

-- what an array keeps of a value is stored at an index that is within
abbrev pub stored : ℕ → ℤ → ElementType → Value → Bool → ArrayEffect
stored number index held v suits =
    if may_stand v suits then Puts number (unsigned_abs index) (narrowed held v) else Raises Store

-- an index at which there is no element raises bounds
abbrev pub stored_over : ℕ → ElementType → StoreOperands → Bool → Option Value → ArrayEffect
stored_over number held operands suits None = Raises Bounds
stored_over number held operands suits (Some old) = stored number operands.index held operands.value suits

abbrev pub stored_in : List Object → StoreOperands → Bool → Result (ℕ × ElementType) ArrayEffect → ArrayEffect
stored_in heap operands suits (Err effect) = effect
stored_in heap operands suits (Ok (number, held)) =
    stored_over number held operands suits (element_in heap number operands.index)

-- a reference, an index and a value are taken; null is tested first, then the bounds, then whether the value suits
abbrev pub store_given : Element → Bool → List Object → Option StoreOperands → ArrayEffect
store_given element suits heap None = Sticks
store_given element suits heap (Some operands) =
    if holds element operands.value then stored_in heap operands suits (array_for heap element operands.array) else Sticks

-- fastore and dastore are not supported
abbrev pub store_effect : Element → Bool → List Value → List Object → ArrayEffect
store_effect element suits stack heap =
    if is_judged element then store_given element suits heap (store_operands stack) else Sticks
