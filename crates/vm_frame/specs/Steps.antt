-- What an instruction does that needs the frame alone (JVM Specification SE 8, 6.5), by families.
use Rattle.std.specs.Prelude.{ℕ}
use Rattle.cf_code.specs.declared.instr.Instr.{Instr}
use Rattle.cf_code.specs.declared.instr.Instr.TheVariants.{Nop, Constant, Local, Array, Stack, Number, Jump, Table, Lookup, Return, Field, Call, Object}
use Rattle.vm_world.specs.declared.frame.Frame.{Frame}
use Rattle.vm_frame.specs.declared.effect.FrameEffect.{FrameEffect}
use Rattle.vm_frame.specs.declared.effect.FrameEffect.TheVariants.{Drops, Exceeds}
use Rattle.vm_frame.specs.declared.effect.FrameWent.{FrameWent}
use Rattle.vm_frame.specs.Constants.{constant_effect}
use Rattle.vm_frame.specs.Locals.{local_effect}
use Rattle.vm_frame.specs.Stacks.{stack_effect}
use Rattle.vm_frame.specs.Numbers.{number_effect}
use Rattle.vm_frame.specs.Jumps.{jump_effect, table_effect, lookup_effect}
use Rattle.vm_frame.specs.Effects.{done}

-- the effect of an instruction: nop has none, and what is done to arrays, objects, fields and other frames needs more than
-- the frame
abbrev pub frame_effect : Instr → Frame → FrameEffect
frame_effect Nop frame = Drops 0
frame_effect (Constant constant) frame = constant_effect constant
frame_effect (Local local) frame = local_effect local frame.locals frame.stack
frame_effect (Stack move) frame = stack_effect move frame.stack
frame_effect (Number number) frame = number_effect number frame.stack
frame_effect (Jump jump) frame = jump_effect jump frame.stack
frame_effect (Table switch) frame = table_effect switch frame.stack
frame_effect (Lookup switch) frame = lookup_effect switch frame.stack
frame_effect (Array array) frame = Exceeds
frame_effect (Return returned) frame = Exceeds
frame_effect (Field field) frame = Exceeds
frame_effect (Call call) frame = Exceeds
frame_effect (Object object) frame = Exceeds

-- what comes of an instruction, and the frame after it, with the next instruction at a pc
abbrev pub frame_step : Instr → ℕ → Frame → FrameWent × Frame
frame_step instr next frame = done next (frame_effect instr frame) frame
