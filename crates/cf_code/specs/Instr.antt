-- The bytes of an instruction at a pc (JVM Specification SE 8, 6.5). The families' bytes stand in the files of their
-- names; together they are the table of chapter 7.
use Rattle.std.specs.Prelude.{ℕ, ◌≡◌, List, [], ◌∷◌}
use Rattle.cf_code.specs.declared.instr.Instr.{Instr}
use Rattle.cf_code.specs.declared.instr.Instr.TheVariants.{Nop, Constant, Local, Array, Stack, Number, Jump, Table, Lookup, Return, Field, Call, Object}
use Rattle.cf_code.specs.Constants.{constant_spelling, FitsConstant}
use Rattle.cf_code.specs.Locals.{local_spelling, FitsLocal}
use Rattle.cf_code.specs.Arrays.{array_spelling, FitsArray}
use Rattle.cf_code.specs.Stacks.{stack_opcode}
use Rattle.cf_code.specs.Numbers.{number_opcode}
use Rattle.cf_code.specs.Jumps.{jump_spelling, FitsJump}
use Rattle.cf_code.specs.Switches.{table_spelling, lookup_spelling, FitsTable, FitsLookup}
use Rattle.cf_code.specs.Returns.{return_opcode}
use Rattle.cf_code.specs.Fields.{field_spelling, FitsField}
use Rattle.cf_code.specs.Calls.{call_spelling, FitsCall}
use Rattle.cf_code.specs.Objects.{object_spelling, FitsObject}

-- the bytes of an instruction at a pc
abbrev pub spelling : ℕ → Instr → List ℕ
spelling pc Nop = 0 ∷ []
spelling pc (Constant c) = constant_spelling c
spelling pc (Local l) = local_spelling l
spelling pc (Array a) = array_spelling a
spelling pc (Stack s) = stack_opcode s ∷ []
spelling pc (Number n) = number_opcode n ∷ []
spelling pc (Jump j) = jump_spelling pc j
spelling pc (Table s) = table_spelling pc s
spelling pc (Lookup s) = lookup_spelling pc s
spelling pc (Return r) = return_opcode r ∷ []
spelling pc (Field f) = field_spelling f
spelling pc (Call c) = call_spelling c
spelling pc (Object o) = object_spelling o

-- what has a spelling at a pc
abbrev pub Fits : ℕ → Instr → Type 0
Fits pc Nop = Unit {0}
Fits pc (Constant c) = FitsConstant c
Fits pc (Local l) = FitsLocal l
Fits pc (Array a) = FitsArray a
Fits pc (Stack s) = Unit {0}
Fits pc (Number n) = Unit {0}
Fits pc (Jump j) = FitsJump pc j
Fits pc (Table s) = FitsTable pc s
Fits pc (Lookup s) = FitsLookup pc s
Fits pc (Return r) = Unit {0}
Fits pc (Field f) = FitsField f
Fits pc (Call c) = FitsCall c
Fits pc (Object o) = FitsObject o

-- these bytes are an instruction at a pc
abbrev pub IsInstr : ℕ → List ℕ → Instr → Type 0
IsInstr pc bytes instr = (bytes ≡ spelling pc instr) × Fits pc instr

-- an instruction that is no switch
abbrev pub IsPlain : Instr → Type 0
IsPlain (Table s) = ⊥
IsPlain (Lookup s) = ⊥
IsPlain i = Unit {0}
