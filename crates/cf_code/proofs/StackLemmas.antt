-- The moves on the operand stack: read back from their opcodes, which stand alone.
use Rattle.std.proofs.Common.{refl}
use Rattle.cf_code.specs.Stacks.{stack_opcode}
use Rattle.cf_code.specs.declared.stack.StackMove.{StackMove}
use Rattle.cf_code.specs.declared.stack.StackMove.TheVariants.{Pop}
use Rattle.cf_code.specs.declared.instr.Instr.TheVariants.{Stack}
use Rattle.cf_code.proofs.OpcodeLemmas.{IsAlone}

pub stack_alone : (s : StackMove) → IsAlone (stack_opcode s) (Stack s)
stack_alone Pop = (λ pc. refl, (refl, refl))
stack_alone s = (λ pc. refl, (refl, refl))
