-- What an effect does to a frame.
use Rattle.std.specs.Prelude.{ℕ, ◌+◌, List, [], ◌∷◌, ◌++◌, length, Some, slice_set}
use Rattle.jv_base.specs.declared.value.Value.{Value}
use Rattle.vm_world.specs.declared.frame.Frame.{Frame}
use Rattle.vm_frame.specs.declared.effect.FrameEffect.{FrameEffect}
use Rattle.vm_frame.specs.declared.effect.FrameEffect.TheVariants.{Gives, Drops, Copies, Swaps, Stores, Changes, Jumps, Raises, Sticks, Exceeds}
use Rattle.vm_frame.specs.declared.effect.FrameWent.{FrameWent}
use Rattle.vm_frame.specs.declared.effect.FrameWent.TheVariants.{Next, Raised, Stuck, Other}
use Rattle.vm_frame.specs.Operands.{without, values}
use Rattle.vm_frame.specs.Locals.{stored}

-- the frame at a pc, with an operand stack and the same locals
abbrev pub at : Frame → ℕ → List Value → FrameWent × Frame
at frame pc stack = (Next, record frame { pc = pc; stack = stack })

-- what comes of an effect, and the frame after it, with the next instruction at a pc: a fault, and what is stuck, leave
-- the frame as it was
abbrev pub done : ℕ → FrameEffect → Frame → FrameWent × Frame
done next (Gives n v) frame = at frame next (without n frame.stack ++ v ∷ [])
done next (Drops n) frame = at frame next (without n frame.stack)
done next (Copies top under) frame =
    at frame next (without (length (values top) + length (values under)) frame.stack
    ++ values top ++ values under ++ values top)
done next (Swaps under top) frame = at frame next (without 2 frame.stack ++ top ∷ under ∷ [])
done next (Stores index v) frame =
    (Next, record frame { pc = next; locals = stored frame.locals index v; stack = without 1 frame.stack })
done next (Changes index v) frame = (Next, record frame { pc = next; locals = slice_set frame.locals index (Some v) })
done next (Jumps n pc) frame = at frame pc (without n frame.stack)
done next (Raises kind) frame = (Raised kind, frame)
done next Sticks frame = (Stuck, frame)
done next Exceeds frame = (Other, frame)
