-- The moves on the operand stack (JVM Specification SE 8, 6.5). They count words, of which a long has two.
use Rattle.std.specs.Prelude.{ℕ, List, length, Option, Some, None}
use Rattle.jv_base.specs.declared.value.Value.{Value}
use Rattle.cf_code.specs.declared.stack.StackMove.{StackMove}
use Rattle.cf_code.specs.declared.stack.StackMove.TheVariants.{Pop, Pop2, Dup, DupX1, DupX2, Dup2, Dup2X1, Dup2X2, Swap}
use Rattle.vm_frame.specs.declared.operand.Operands.{Operands}
use Rattle.vm_frame.specs.declared.operand.Operands.TheVariants.{TwoOperands}
use Rattle.vm_frame.specs.declared.effect.FrameEffect.{FrameEffect}
use Rattle.vm_frame.specs.declared.effect.FrameEffect.TheVariants.{Drops, Copies, Swaps, Sticks}
use Rattle.vm_frame.specs.Operands.{without, values, operands_of}

-- the words on top are dropped
abbrev pub dropped : Option Operands → FrameEffect
dropped None = Sticks
dropped (Some top) = Drops (length (values top))

-- the words on top are copied under those below them
abbrev pub copied : Operands → Option Operands → FrameEffect
copied top None = Sticks
copied top (Some under) = Copies top under

-- the words on top, and then as many below them as are counted
abbrev pub copied_under : ℕ → List Value → Option Operands → FrameEffect
copied_under under stack None = Sticks
copied_under under stack (Some top) = copied top (operands_of under (without (length (values top)) stack))

-- so many words on top are copied under so many further words
abbrev pub copies : ℕ → ℕ → List Value → FrameEffect
copies top under stack = copied_under under stack (operands_of top stack)

-- two values of one word are exchanged
abbrev pub swapped : Operands → FrameEffect
swapped (TwoOperands under top) = Swaps under top
swapped other = Sticks

abbrev pub swaps : Option Operands → FrameEffect
swaps None = Sticks
swaps (Some operands) = swapped operands

-- 6.5 pop, pop2, dup, dup_x1, dup_x2, dup2, dup2_x1, dup2_x2, swap
abbrev pub stack_effect : StackMove → List Value → FrameEffect
stack_effect Pop stack = dropped (operands_of 1 stack)
stack_effect Pop2 stack = dropped (operands_of 2 stack)
stack_effect Dup stack = copies 1 0 stack
stack_effect DupX1 stack = copies 1 1 stack
stack_effect DupX2 stack = copies 1 2 stack
stack_effect Dup2 stack = copies 2 0 stack
stack_effect Dup2X1 stack = copies 2 1 stack
stack_effect Dup2X2 stack = copies 2 2 stack
stack_effect Swap stack = swaps (operands_of 2 stack)
