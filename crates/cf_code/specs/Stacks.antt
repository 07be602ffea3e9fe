-- The opcodes of the moves on the operand stack (JVM Specification SE 8, 6.5).
use Rattle.std.specs.Prelude.{ℕ}
use Rattle.cf_code.specs.declared.stack.StackMove.{StackMove}
use Rattle.cf_code.specs.declared.stack.StackMove.TheVariants.{Pop, Pop2, Dup, DupX1, DupX2, Dup2, Dup2X1, Dup2X2, Swap}

-- pop, pop2, dup, dup_x1, dup_x2, dup2, dup2_x1, dup2_x2, swap
abbrev pub stack_opcode : StackMove → ℕ
stack_opcode Pop = 87
stack_opcode Pop2 = 88
stack_opcode Dup = 89
stack_opcode DupX1 = 90
stack_opcode DupX2 = 91
stack_opcode Dup2 = 92
stack_opcode Dup2X1 = 93
stack_opcode Dup2X2 = 94
stack_opcode Swap = 95
