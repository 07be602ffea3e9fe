-- The returns (JVM Specification SE 8, 6.5 ireturn, lreturn, areturn, return, and 5.5 for a frame that initialises a class).
-- While a method runs, the pc of its caller is that of the call: an exception that leaves the method is looked for there
-- (2.10). A return moves it behind the call.
use Rattle.std.specs.Prelude.{ℕ, ◌&&◌, List, [], ◌∷◌, Option, Some, None, if◌then◌else◌}
use Rattle.jv_base.specs.declared.value.Ty.{Ty}
use Rattle.jv_base.specs.declared.value.Desc.{Desc}
use Rattle.jv_base.specs.declared.value.Value.{Value}
use Rattle.cf_code.specs.declared.word.Word.{Word}
use Rattle.cf_code.specs.declared.word.Returned.{Returned}
use Rattle.cf_code.specs.declared.word.Returned.TheVariants as returns
use Rattle.vm_world.specs.declared.classes.Stage.TheVariants.{Done}
use Rattle.vm_world.specs.declared.frame.Frame.{Frame}
use Rattle.vm_world.specs.declared.state.State.{State}
use Rattle.vm_world.specs.Classes.{with_stage}
use Rattle.vm_frame.specs.Operands.{top}
use Rattle.vm_step.specs.declared.went.FramesWent.{FramesWent}
use Rattle.vm_step.specs.declared.went.FramesWent.TheVariants.{Next, Ended, Stuck}
use Rattle.vm_step.specs.Frames.{running, below, with_running, given}
use Rattle.vm_step.specs.Words.{word_of, has_word}

-- the value on top, where it is of the type that the instruction takes and of the result's type; it is not narrowed, also
-- where the result is a boolean, byte, char or short
abbrev pub typed : Word → Ty → Option Value → Option (Option Value)
typed word type None = None
typed word type (Some v) = if has_word word v && has_word (word_of type) v then Some (Some v) else None

-- what a return gives, by the method's result: no value, or one; nothing at all, where it does not find that
abbrev pub result_given : Returned → Option Ty → List Value → Option (Option Value)
result_given returns.Nothing None stack = Some None
result_given returns.Nothing (Some type) stack = None
result_given (returns.Value word) None stack = None
result_given (returns.Value word) (Some type) stack = typed word type (top stack)

-- a return from an initialiser: its class is done, and the frame below executes its instruction again
abbrev pub went_below : List Frame → FramesWent
went_below [] = Ended
went_below (frame ∷ frames) = Next

abbrev pub initialised : Frame → State → FramesWent × State
initialised frame state = (
  went_below (below state.frames),
  record state { frames = below state.frames; classes = with_stage state.classes frame.method.class Done },
)

-- a return to the caller, which goes on behind its call with the value on its stack; where there is no caller, the run has
-- ended
abbrev pub to_caller : Option ℕ → Option Value → Option Frame → State → FramesWent × State
to_caller behind value None state = (Ended, record state { frames = [] })
to_caller None value (Some caller) state = (Stuck, state)
to_caller (Some pc) value (Some caller) state =
    (Next, record state { frames = with_running (given pc value) (below state.frames) })

-- a return from a frame
abbrev pub return_given : Option ℕ → Frame → Option (Option Value) → State → FramesWent × State
return_given behind frame None state = (Stuck, state)
return_given behind frame (Some value) state =
    if frame.initialises then initialised frame state
    else to_caller behind value (running (below state.frames)) state

abbrev pub return_from : Returned → Desc → Option ℕ → Option Frame → State → FramesWent × State
return_from returned desc behind None state = (Stuck, state)
return_from returned desc behind (Some frame) state =
    return_given behind frame (result_given returned desc.result frame.stack) state

-- a return of the running method, by its descriptor and the pc behind the caller's call, where there is one
abbrev pub return_step : Returned → Desc → Option ℕ → State → FramesWent × State
return_step returned desc behind state = return_from returned desc behind (running state.frames) state
