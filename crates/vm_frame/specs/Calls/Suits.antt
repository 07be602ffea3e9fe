-- What the call that does an effect asks of it.
use Rattle.std.specs.Prelude.{◌+◌, ◌≤◌, ◌<◌, length}
use Rattle.vm_world.specs.declared.frame.Frame.{Frame}
use Rattle.vm_frame.specs.declared.effect.FrameEffect.{FrameEffect}
use Rattle.vm_frame.specs.declared.effect.FrameEffect.TheVariants.{Copies, Swaps, Changes}
use Rattle.vm_frame.specs.Operands.{values}

-- what an effect speaks of is there
abbrev pub Suits : FrameEffect → Frame → Type 0
Suits (Copies top under) frame = length (values top) + length (values under) ≤ length frame.stack
Suits (Swaps under top) frame = 2 ≤ length frame.stack
Suits (Changes index v) frame = index < length frame.locals
Suits effect frame = Unit {0}
