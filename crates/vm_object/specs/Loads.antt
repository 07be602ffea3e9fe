-- The loads from arrays (JVM Specification SE 8, 6.5: iaload, laload, aaload, baload, caload, saload).
use Rattle.std.specs.Prelude.{ℕ, ℤ, if◌then◌else◌, List, Option, Some, None, Result, Ok, Err}
use Rattle.jv_base.specs.declared.method.Kind.TheVariants.{Bounds}
use Rattle.jv_base.specs.declared.value.Value.{Value}
use Rattle.cf_code.specs.declared.array.Element.{Element}
use Rattle.cf_code.specs.Kinds.{is_judged}
use Rattle.vm_world.specs.declared.object.Object.{Object}
use Rattle.vm_object.specs.declared.element.ElementType.{ElementType}
use Rattle.vm_object.specs.declared.effect.ArrayEffect.{ArrayEffect}
use Rattle.vm_object.specs.declared.effect.ArrayEffect.TheVariants.{Gives, Raises, Sticks}
use Rattle.vm_object.specs.ElementTypes.{holds}
use Rattle.vm_object.specs.Operands.{reference_and_int}
use Rattle.vm_object.specs.Places.{array_for, element_in}

-- what was found at the index: nothing raises bounds. baload and saload extend an element with its sign, and caload with zeros,
-- so the int is the number that the element is; a boolean is 0 or 1.
abbrev pub loaded : Element → Option Value → ArrayEffect
loaded element None = Raises Bounds
loaded element (Some v) = if holds element v then Gives 2 v else Sticks

abbrev pub loaded_from : Element → List Object → ℤ → Result (ℕ × ElementType) ArrayEffect → ArrayEffect
loaded_from element heap index (Err effect) = effect
loaded_from element heap index (Ok (number, held)) = loaded element (element_in heap number index)

-- a reference and an index are taken, null is tested first
abbrev pub load_given : Element → List Object → Option (Option ℕ × ℤ) → ArrayEffect
load_given element heap None = Sticks
load_given element heap (Some (r, index)) = loaded_from element heap index (array_for heap element r)

-- faload and daload are not supported
abbrev pub load_effect : Element → List Value → List Object → ArrayEffect
load_effect element stack heap = if is_judged element then load_given element heap (reference_and_int stack) else Sticks
