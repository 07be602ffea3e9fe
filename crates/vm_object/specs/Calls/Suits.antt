-- What the call that does an effect asks of it.
use Rattle.std.specs.Prelude.{◌<◌, length}
use Rattle.vm_world.specs.declared.frame.Frame.{Frame}
use Rattle.vm_object.specs.declared.effect.ArrayEffect.{ArrayEffect}
use Rattle.vm_object.specs.declared.effect.ArrayEffect.TheVariants.{Makes}

-- where an array is made, there is a value on top
abbrev pub Suits : ArrayEffect → Frame → Type 0
Suits (Makes descriptor n v) frame = 0 < length frame.stack
Suits effect frame = Unit {0}
