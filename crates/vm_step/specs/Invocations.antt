-- Calls of methods with code (JVM Specification SE 8, 2.6 and 6.5 invokevirtual, invokespecial, invokestatic, invokeinterface).
use Rattle.std.specs.Prelude.{ℕ, ◌+◌, nat_le, Bool, List, [], ◌∷◌, ◌++◌, length, Option, Some, None, if◌then◌else◌}
use Rattle.jv_base.specs.declared.method.MethodId.{MethodId}
use Rattle.jv_base.specs.declared.value.Desc.{Desc}
use Rattle.jv_base.specs.declared.value.Value.{Value}
use Rattle.vm_world.specs.declared.frame.Frame.{Frame}
use Rattle.vm_world.specs.declared.state.State.{State}
use Rattle.vm_world.specs.Start.{entry_frame}
use Rattle.vm_frame.specs.Operands.{without}
use Rattle.vm_step.specs.declared.went.FramesWent.{FramesWent}
use Rattle.vm_step.specs.declared.went.FramesWent.TheVariants.{Next, Stuck, Left}
use Rattle.vm_step.specs.Frames.{running, with_running}
use Rattle.vm_step.specs.Arguments.{arguments}

-- the caller: its arguments are taken, and its pc stays at the call
abbrev pub taken : ℕ → Frame → Frame
taken count frame = record frame { stack = without count frame.stack }

-- the frames after a call: the new frame, like that of an entry, is at pc 0, with the arguments in its locals, of which a
-- long takes two, and nothing on its stack
abbrev pub called : MethodId → List Value → List Frame → List Frame
called method args frames = with_running (taken (length args)) frames ++ entry_frame method args ∷ []

-- a call with its arguments, within the bound on frames
abbrev pub call_given : MethodId → ℕ → Option (List Value) → State → FramesWent × State
call_given method bound None state = (Stuck, state)
call_given method bound (Some args) state =
    if nat_le (length state.frames + 1) bound then (Next, record state { frames = called method args state.frames })
    else (Left, state)

-- the arguments on the stack of the running frame
abbrev pub arguments_in : Bool → Desc → Option Frame → Option (List Value)
arguments_in receiver desc None = None
arguments_in receiver desc (Some frame) = arguments receiver desc.params frame.stack

-- a call of a method, with a receiver or without, by its descriptor
abbrev pub call_step : MethodId → Bool → Desc → ℕ → State → FramesWent × State
call_step method receiver desc bound state =
    call_given method bound (arguments_in receiver desc (running state.frames)) state
