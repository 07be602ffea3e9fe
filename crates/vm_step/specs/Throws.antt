-- Exceptions on their way (JVM Specification SE 8, 2.10, and 6.5 athrow).
use Rattle.std.specs.Prelude.{ℕ, ◌+◌, List, [], ◌∷◌, ◌++◌, length, Option, Some, None, if◌then◌else◌}
use Rattle.jv_base.specs.declared.method.Kind.TheVariants.{Null}
use Rattle.jv_base.specs.declared.value.Value.{Value}
use Rattle.vm_world.specs.declared.object.Object.TheVariants.{Instance}
use Rattle.vm_world.specs.declared.frame.Frame.{Frame}
use Rattle.vm_world.specs.declared.state.State.{State}
use Rattle.vm_frame.specs.Operands.{top, reference_in}
use Rattle.vm_step.specs.declared.throws.Thrown.{Thrown}
use Rattle.vm_step.specs.declared.throws.Thrown.TheVariants.{Throws, Raises, Sticks}
use Rattle.vm_step.specs.Frames.{running, below, with_running}
use Rattle.vm_step.specs.Handlers.{entered}

-- the frames without the running one; where that initialises a class, none is left: the run has ended
abbrev pub without_frame : Option Frame → List Frame → List Frame
without_frame None frames = []
without_frame (Some frame) frames = if frame.initialises then [] else below frames

abbrev pub dropped : List Frame → List Frame
dropped frames = without_frame (running frames) frames

-- an exception meets the running frame: it enters the handler that was found, else the frame is dropped, and the exception
-- is on its way
abbrev pub thrown : Option ℕ → ℕ → State → State
thrown (Some handler) number state =
    record state { frames = with_running (entered handler number) state.frames; thrown = None }
thrown None number state = record state { frames = dropped state.frames; thrown = Some number }

-- a fault raises a new object of the class of its exception, without fields, which has the next number
abbrev pub raised : List ℕ → Option ℕ → State → State
raised class handler state =
    thrown handler (length state.heap + 1) (record state { heap = state.heap ++ Instance class [] ∷ [] })

-- what athrow throws: the object on top, and null raises null
abbrev pub throws : Option (Option ℕ) → Thrown
throws None = Sticks
throws (Some None) = Raises Null
throws (Some (Some number)) = Throws number

abbrev pub athrow_effect : List Value → Thrown
athrow_effect stack = throws (reference_in (top stack))
