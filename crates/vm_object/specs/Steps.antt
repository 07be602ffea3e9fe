-- What an instruction on arrays does (JVM Specification SE 8, 6.5).
use Rattle.std.specs.Prelude.{ℕ, List}
use Rattle.jv_base.specs.declared.value.Value.{Value}
use Rattle.cf_code.specs.declared.array.Array.{Array}
use Rattle.cf_code.specs.declared.array.Array.TheVariants.{Load, Store, New, NewOf, NewMany, Length}
use Rattle.vm_world.specs.declared.frame.Frame.{Frame}
use Rattle.vm_world.specs.declared.object.Object.{Object}
use Rattle.vm_object.specs.declared.effect.ArrayEffect.{ArrayEffect}
use Rattle.vm_object.specs.declared.effect.ArrayEffect.TheVariants.{Sticks}
use Rattle.vm_object.specs.declared.effect.ArrayWent.{ArrayWent}
use Rattle.vm_object.specs.declared.step.Setting.{Setting}
use Rattle.vm_object.specs.ElementTypes.{type_text}
use Rattle.vm_object.specs.Loads.{load_effect}
use Rattle.vm_object.specs.Stores.{store_effect}
use Rattle.vm_object.specs.Lengths.{length_effect}
use Rattle.vm_object.specs.NewArrays.{make_effect}
use Rattle.vm_object.specs.Effects.{done}

-- the effect of an instruction: newarray names its type by a code, anewarray by a constant; multianewarray is not supported
abbrev pub array_effect : Array → Setting → List Value → List Object → ArrayEffect
array_effect (Load element) setting stack heap = load_effect element stack heap
array_effect (Store element) setting stack heap = store_effect element setting.suits stack heap
array_effect (New code) setting stack heap = make_effect (type_text code) setting.bound stack
array_effect (NewOf index) setting stack heap = make_effect setting.element setting.bound stack
array_effect (NewMany index dimensions) setting stack heap = Sticks
array_effect Length setting stack heap = length_effect stack heap

-- what comes of an instruction, the frame after it and the heap after it, with the next instruction at a pc
abbrev pub array_step : Array → Setting → ℕ → Frame → List Object → ArrayWent × Frame × List Object
array_step array setting next frame heap = done next (array_effect array setting frame.stack heap) frame heap
