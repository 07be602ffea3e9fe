-- Serves read_instr: the families whose opcode stands alone, and those with operands that need no memory.
use Rattle.std.specs.Prelude.{ℕ, ◌≡◌}
use Rattle.cf_code.specs.Numbers.{number_opcode}
use Rattle.cf_code.specs.Returns.{return_opcode}
use Rattle.cf_code.specs.Stacks.{stack_opcode}
use Rattle.cf_code.specs.declared.instr.Instr.{Instr}
use Rattle.cf_code.specs.declared.instr.Instr.TheVariants.{Nop, Constant, Local, Array, Stack, Number, Jump, Return, Field, Call, Object}

-- an instruction without operands has this opcode
abbrev pub IsOpcode : Instr → ℕ → Type 0
IsOpcode Nop opcode = opcode ≡ 0
IsOpcode (Stack s) opcode = opcode ≡ stack_opcode s
IsOpcode (Number n) opcode = opcode ≡ number_opcode n
IsOpcode (Return r) opcode = opcode ≡ return_opcode r
IsOpcode i opcode = ⊥

-- of a family that has operands, and is no switch
abbrev pub HasOperands : Instr → Type 0
HasOperands (Constant c) = Unit {0}
HasOperands (Local l) = Unit {0}
HasOperands (Array a) = Unit {0}
HasOperands (Jump j) = Unit {0}
HasOperands (Field f) = Unit {0}
HasOperands (Call c) = Unit {0}
HasOperands (Object o) = Unit {0}
HasOperands i = ⊥
