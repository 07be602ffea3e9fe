-- The instructions of thin code among those of the Java Virtual Machine, and where they stand.
use Rattle.std.specs.Prelude.{◌+◌, ◌-◌, ℕ, Bool, true, ◌&&◌, nat_le, nat_lt, if◌then◌else◌, List, [], ◌∷◌, replicate}
use Rattle.std.specs.Prelude.{length, slice_get, Option, Some, None}
use Rattle.std.specs.List.{flat_map}
use Rattle.cf_code.specs.declared.constant.Constant as constant
use Rattle.cf_code.specs.declared.constant.Constant.TheVariants as constants
use Rattle.cf_code.specs.declared.local.LocalIndex as index
use Rattle.cf_code.specs.declared.local.LocalIndex.TheVariants as indices
use Rattle.cf_code.specs.declared.local.Local as local
use Rattle.cf_code.specs.declared.local.Local.TheVariants as locals
use Rattle.cf_code.specs.declared.word.Word.TheVariants as words
use Rattle.cf_code.specs.declared.word.Returned as returned
use Rattle.cf_code.specs.declared.word.Returned.TheVariants as returns
use Rattle.cf_code.specs.declared.number.BitOp.TheVariants as bits
use Rattle.cf_code.specs.declared.number.Whole.TheVariants as wholes
use Rattle.cf_code.specs.declared.number.Number as number
use Rattle.cf_code.specs.declared.number.Number.TheVariants as numbers
use Rattle.cf_code.specs.declared.jump.Condition.TheVariants as conditions
use Rattle.cf_code.specs.declared.jump.Jump as jump
use Rattle.cf_code.specs.declared.jump.Jump.TheVariants as jumps
use Rattle.cf_code.specs.declared.object.Object as object
use Rattle.cf_code.specs.declared.object.Object.TheVariants as objects
use Rattle.cf_code.specs.declared.instr.Instr as instr
use Rattle.cf_code.specs.declared.instr.Instr.TheVariants as instrs
use Rattle.cf_code.specs.declared.code.Placed.{Placed}
use Rattle.cf_thin.specs.declared.instr.ThinInstr.{ThinInstr}
use Rattle.cf_thin.specs.declared.instr.ThinInstr.TheVariants.{AconstNull, Iconst, Iload, Istore, Ixor, Ifeq, Ifne}
use Rattle.cf_thin.specs.declared.instr.ThinInstr.TheVariants.{IfIcmpeq, IfIcmpne, Goto, Ireturn, Return, Athrow}

-- an instruction of thin code with how many bytes it has, or none
abbrev pub Found : Type 0
Found = Option (ThinInstr × ℕ)

-- aconst_null, iconst_<i>, bipush, sipush
abbrev pub of_constant : constant.Constant → Found
of_constant constants.Null = Some (AconstNull, 1)
of_constant (constants.Iconst z) = Some (Iconst z, 1)
of_constant (constants.Bipush z) = Some (Iconst z, 2)
of_constant (constants.Sipush z) = Some (Iconst z, 3)
of_constant other = None

-- an access to a local variable that is not behind `wide`
abbrev pub of_access : (ℕ → ThinInstr) → index.LocalIndex → Found
of_access access (indices.Short n) = Some (access n, 1)
of_access access (indices.Byte n) = Some (access n, 2)
of_access access (indices.Wide n) = None

-- iload, istore
abbrev pub of_local : local.Local → Found
of_local (locals.Load words.Int index) = of_access Iload index
of_local (locals.Store words.Int index) = of_access Istore index
of_local other = None

-- ixor
abbrev pub of_number : number.Number → Found
of_number (numbers.Bitwise bits.Xor wholes.WholeInt) = Some (Ixor, 1)
of_number other = None

-- ifeq, ifne, if_icmpeq, if_icmpne, goto
abbrev pub of_jump : jump.Jump → Found
of_jump (jumps.IfZero conditions.Equal target) = Some (Ifeq target, 3)
of_jump (jumps.IfZero conditions.NotEqual target) = Some (Ifne target, 3)
of_jump (jumps.IfInts conditions.Equal target) = Some (IfIcmpeq target, 3)
of_jump (jumps.IfInts conditions.NotEqual target) = Some (IfIcmpne target, 3)
of_jump (jumps.Goto target) = Some (Goto target, 3)
of_jump other = None

-- ireturn, return
abbrev pub of_return : returned.Returned → Found
of_return (returns.Value words.Int) = Some (Ireturn, 1)
of_return returns.Nothing = Some (Return, 1)
of_return other = None

-- athrow
abbrev pub of_object : object.Object → Found
of_object objects.Throw = Some (Athrow, 1)
of_object other = None

-- the instruction of thin code that an instruction is
abbrev pub thin_of : instr.Instr → Found
thin_of (instrs.Constant c) = of_constant c
thin_of (instrs.Local l) = of_local l
thin_of (instrs.Number n) = of_number n
thin_of (instrs.Jump j) = of_jump j
thin_of (instrs.Return r) = of_return r
thin_of (instrs.Object o) = of_object o
thin_of other = None

-- where an instruction jumps to
abbrev pub target_of : ThinInstr → Option ℕ
target_of (Ifeq target) = Some target
target_of (Ifne target) = Some target
target_of (IfIcmpeq target) = Some target
target_of (IfIcmpne target) = Some target
target_of (Goto target) = Some target
target_of instr = None

-- code with a place for each of its bytes: at the opcode of an instruction of thin code that instruction, and else none
abbrev pub Places : Type 0
Places = List Found

-- the places of the bytes of an instruction, of which only the number matters where it is not of thin code
abbrev pub places_of : Found → Places
places_of None = None ∷ []
places_of (Some found) = Some found ∷ replicate (found.1 - 1) None

-- the places of the code of a method: where one of its instructions is not of thin code, those behind it are of no use
abbrev pub thin_places : List Placed → Places
thin_places code = flat_map (λ placed. places_of (thin_of placed.instr)) code

-- whether an instruction that jumps does so to a pc behind its own
abbrev pub jumps_on : ℕ → Option ℕ → Bool
jumps_on pc None = true
jumps_on pc (Some target) = nat_lt pc target

-- whether an instruction at a pc ends behind the pc and within so many bytes, and jumps behind the pc
abbrev pub goes_on : ℕ → ℕ → ThinInstr → ℕ → Bool
goes_on bytes pc instr size = nat_lt 0 size && nat_le (pc + size) bytes && jumps_on pc (target_of instr)

-- what is found at a pc of so many bytes, with the pc behind it, where it goes on
abbrev pub standing_at : ℕ → ℕ → ThinInstr × ℕ → Option (ThinInstr × ℕ)
standing_at bytes pc found =
    if goes_on bytes pc found.0 found.1 then Some (found.0, pc + found.1) else None

abbrev pub found_at : ℕ → ℕ → Option Found → Option (ThinInstr × ℕ)
found_at bytes pc (Some (Some found)) = standing_at bytes pc found
found_at bytes pc other = None

-- the instruction whose opcode is at a pc of the code, and the pc behind it, where it goes on
unfoldable pub instr_at : Places → ℕ → Option (ThinInstr × ℕ)
instr_at code pc = found_at (length code) pc (slice_get code pc)
