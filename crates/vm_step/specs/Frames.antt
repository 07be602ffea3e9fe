-- The frames (JVM Specification SE 8, 2.6), of which the running one is the last.
use Rattle.std.specs.Prelude.{ℕ, List, ◌++◌, map, option_to_list, Option}
use Rattle.jv_base.specs.declared.value.Value.{Value}
use Rattle.vm_world.specs.declared.frame.Frame.{Frame}
use Rattle.vm_world.specs.declared.state.State.{State}
use Rattle.vm_frame.specs.Operands.{top, without}

-- the running frame, where there is one
abbrev pub running : List Frame → Option Frame
running frames = top frames

-- the frames below it
abbrev pub below : List Frame → List Frame
below frames = without 1 frames

-- the frames with the running one changed, where there is one
abbrev pub with_running : (Frame → Frame) → List Frame → List Frame
with_running change frames = below frames ++ map change (option_to_list (running frames))

-- the frame at a pc, with a value on its stack, where there is one
abbrev pub given : ℕ → Option Value → Frame → Frame
given pc value frame = record frame { pc = pc; stack = frame.stack ++ option_to_list value }

-- the frame behind an instruction, with so many values taken from its stack, and one put on it, where there is one
abbrev pub executed : ℕ → ℕ → Option Value → Frame → Frame
executed pc count value frame =
    record frame { pc = pc; stack = without count frame.stack ++ option_to_list value }

-- the running frame goes on so, where there is one
abbrev pub gone_on : ℕ → ℕ → Option Value → State → State
gone_on pc count value state =
    record state { frames = with_running (executed pc count value) state.frames }
