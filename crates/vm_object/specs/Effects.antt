-- What an effect does to a frame and to the heap.
use Rattle.std.specs.Prelude.{ℕ, ◌+◌, List, [], ◌∷◌, ◌++◌, length, replicate, Some}
use Rattle.jv_base.specs.declared.value.Value.{Value}
use Rattle.jv_base.specs.declared.value.Value.TheVariants.{Ref}
use Rattle.vm_world.specs.declared.frame.Frame.{Frame}
use Rattle.vm_world.specs.declared.object.Object.{Object}
use Rattle.vm_world.specs.declared.object.Object.TheVariants.{Array}
use Rattle.vm_world.specs.Heap.{changed}
use Rattle.vm_world.specs.Objects.{with_element}
use Rattle.vm_frame.specs.Operands.{without}
use Rattle.vm_object.specs.declared.effect.ArrayEffect.{ArrayEffect}
use Rattle.vm_object.specs.declared.effect.ArrayEffect.TheVariants.{Gives, Makes, Puts, Raises, Sticks, Leaves}
use Rattle.vm_object.specs.declared.effect.ArrayWent.{ArrayWent}
use Rattle.vm_object.specs.declared.effect.ArrayWent.TheVariants.{Next, Raised, Stuck, Left}

-- the frame at a pc, with an operand stack and the same locals
abbrev pub at : Frame → ℕ → List Value → Frame
at frame pc stack = record frame { pc = pc; stack = stack }

-- what comes of an effect, the frame after it and the heap after it, with the next instruction at a pc. A new array has the
-- next number, and a store changes an element of one array. A fault, and what is stuck or left, leave all as it was.
abbrev pub done : ℕ → ArrayEffect → Frame → List Object → ArrayWent × Frame × List Object
done next (Gives n v) frame heap = (Next, at frame next (without n frame.stack ++ v ∷ []), heap)
done next (Makes descriptor n v) frame heap = (
  Next,
  at frame next (without 1 frame.stack ++ Ref (Some (length heap + 1)) ∷ []),
  heap ++ Array descriptor (replicate n v) ∷ [],
)
done next (Puts number place v) frame heap =
    (Next, at frame next (without 3 frame.stack), changed heap number (λ object. with_element object place v))
done next (Raises kind) frame heap = (Raised kind, frame, heap)
done next Sticks frame heap = (Stuck, frame, heap)
done next Leaves frame heap = (Left, frame, heap)
