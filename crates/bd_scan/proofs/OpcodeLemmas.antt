-- An instruction is refused by the opcode of its bytes, where that is not supported: computed over each form of each
-- family.
use Rattle.std.proofs.Common.{◌≡◌, ℕ, pos, negsuc, suc, zero, ◌≤◌, List, [], ◌∷◌, Option, None, refl, arith}
use Rattle.std.proofs.lemmas.Int.{ints}
use Rattle.cf_code.specs.declared.word.Word.TheVariants as words
use Rattle.cf_code.specs.declared.word.Returned.{Returned}
use Rattle.cf_code.specs.declared.word.Returned.TheVariants.{Nothing, Value}
use Rattle.cf_code.specs.declared.constant.Constant.{Constant}
use Rattle.cf_code.specs.declared.constant.Constant.TheVariants.{Null, Iconst, Lconst, Fconst, Dconst}
use Rattle.cf_code.specs.declared.local.LocalIndex.TheVariants.{Short}
use Rattle.cf_code.specs.declared.local.Local.{Local}
use Rattle.cf_code.specs.declared.local.Local.TheVariants.{Load, Store}
use Rattle.cf_code.specs.declared.array.Element.TheVariants as elements
use Rattle.cf_code.specs.declared.array.Array.{Array}
use Rattle.cf_code.specs.declared.array.Array.TheVariants as arrays
use Rattle.cf_code.specs.declared.stack.StackMove.{StackMove}
use Rattle.cf_code.specs.declared.stack.StackMove.TheVariants.{Pop}
use Rattle.cf_code.specs.declared.number.Num.TheVariants as nums
use Rattle.cf_code.specs.declared.number.Whole.TheVariants.{WholeInt}
use Rattle.cf_code.specs.declared.number.ArithOp.TheVariants.{Add, Sub, Mul, Div, Rem, Neg}
use Rattle.cf_code.specs.declared.number.ShiftOp.TheVariants.{Left, Right, RightUnsigned}
use Rattle.cf_code.specs.declared.number.BitOp.TheVariants.{And, Or, Xor}
use Rattle.cf_code.specs.declared.number.Conversion.TheVariants.{IntToLong}
use Rattle.cf_code.specs.declared.number.Comparison.TheVariants.{CompareLong}
use Rattle.cf_code.specs.declared.number.Number.{Number}
use Rattle.cf_code.specs.declared.number.Number.TheVariants.{Arith, Shift, Bitwise, Convert, Compare}
use Rattle.cf_code.specs.declared.jump.Condition.TheVariants.{Equal}
use Rattle.cf_code.specs.declared.jump.Equality.TheVariants.{Same}
use Rattle.cf_code.specs.declared.jump.Jump.{Jump}
use Rattle.cf_code.specs.declared.jump.Jump.TheVariants.{IfZero, IfInts, IfReferences, IfNull}
use Rattle.cf_code.specs.declared.field.FieldUse.{FieldUse}
use Rattle.cf_code.specs.declared.field.FieldUse.TheVariants.{GetStatic}
use Rattle.cf_code.specs.declared.call.Call.{Call}
use Rattle.cf_code.specs.declared.call.Call.TheVariants.{Virtual}
use Rattle.cf_code.specs.declared.object.Object.{Object}
use Rattle.cf_code.specs.declared.object.Object.TheVariants.{Throw}
use Rattle.cf_code.specs.declared.instr.Instr.TheVariants as instrs
use Rattle.cf_code.specs.Bytes.{two}
use Rattle.cf_code.specs.Constants.{constant_spelling, FitsConstant}
use Rattle.cf_code.specs.Locals.{local_spelling, FitsLocal}
use Rattle.cf_code.specs.Arrays.{array_spelling}
use Rattle.cf_code.specs.Stacks.{stack_opcode}
use Rattle.cf_code.specs.Numbers as numbers
use Rattle.cf_code.specs.Jumps.{jump_spelling}
use Rattle.cf_code.specs.Returns as returns
use Rattle.cf_code.specs.Fields.{field_opcode}
use Rattle.cf_code.specs.Calls.{call_spelling}
use Rattle.cf_code.specs.Objects.{object_spelling}
use Rattle.bd_scan.specs.Opcodes.{constant_opcode, local_opcode, array_opcode, number_opcode}
use Rattle.bd_scan.specs.Opcodes.{jump_opcode, return_opcode, call_opcode, object_opcode}
use Rattle.bd_scan.specs.OpcodeLaw.{opcode_of_bytes, if_unsupported, RefusedOpcodes}

-- an opcode, against the bytes
abbrev Told : Option ℕ → List ℕ → Type 0
Told opcode bytes = opcode ≡ if_unsupported (opcode_of_bytes bytes)

constant_told : (c : Constant) → FitsConstant c → Told (constant_opcode c) (constant_spelling c)
constant_told Null fits = refl
constant_told (Iconst (negsuc zero)) fits = refl
constant_told (Iconst (negsuc (suc n))) fits = absurd (omega (arith, ints))
constant_told (Iconst (pos zero)) fits = refl
constant_told (Iconst (pos (suc zero))) fits = refl
constant_told (Iconst (pos (suc (suc zero)))) fits = refl
constant_told (Iconst (pos (suc (suc (suc zero))))) fits = refl
constant_told (Iconst (pos (suc (suc (suc (suc zero)))))) fits = refl
constant_told (Iconst (pos (suc (suc (suc (suc (suc zero))))))) fits = refl
constant_told (Iconst (pos (suc (suc (suc (suc (suc (suc n)))))))) fits = absurd (omega (arith, ints))
constant_told (Lconst zero) fits = refl
constant_told (Lconst (suc zero)) fits = refl
constant_told (Lconst (suc (suc n))) fits = absurd (omega (arith, fits))
constant_told (Fconst zero) fits = refl
constant_told (Fconst (suc zero)) fits = refl
constant_told (Fconst (suc (suc zero))) fits = refl
constant_told (Fconst (suc (suc (suc n)))) fits = absurd (omega (arith, fits))
constant_told (Dconst zero) fits = refl
constant_told (Dconst (suc zero)) fits = refl
constant_told (Dconst (suc (suc n))) fits = absurd (omega (arith, fits))
constant_told other fits = refl

-- the short forms of an access, by their number
module _ (P : ℕ → Type 0) (p0 : P 0) (p1 : P 1) (p2 : P 2) (p3 : P 3) where
  short : (n : ℕ) → n ≤ 3 → P n
  short zero le = p0
  short (suc zero) le = p1
  short (suc (suc zero)) le = p2
  short (suc (suc (suc zero))) le = p3
  short (suc (suc (suc (suc n)))) le = absurd (omega (arith, le))

abbrev LocalTold : Local → Type 0
LocalTold l = Told (local_opcode l) (local_spelling l)

local_told : (l : Local) → FitsLocal l → LocalTold l
local_told (Load words.Int (Short n)) fits =
    short (λ k. LocalTold (Load words.Int (Short k))) refl refl refl refl n fits
local_told (Load words.Int index) fits = refl
local_told (Load words.Long (Short n)) fits =
    short (λ k. LocalTold (Load words.Long (Short k))) refl refl refl refl n fits
local_told (Load words.Long index) fits = refl
local_told (Load words.Float (Short n)) fits =
    short (λ k. LocalTold (Load words.Float (Short k))) refl refl refl refl n fits
local_told (Load words.Float index) fits = refl
local_told (Load words.Double (Short n)) fits =
    short (λ k. LocalTold (Load words.Double (Short k))) refl refl refl refl n fits
local_told (Load words.Double index) fits = refl
local_told (Load words.Reference (Short n)) fits =
    short (λ k. LocalTold (Load words.Reference (Short k))) refl refl refl refl n fits
local_told (Load words.Reference index) fits = refl
local_told (Store words.Int (Short n)) fits =
    short (λ k. LocalTold (Store words.Int (Short k))) refl refl refl refl n fits
local_told (Store words.Int index) fits = refl
local_told (Store words.Long (Short n)) fits =
    short (λ k. LocalTold (Store words.Long (Short k))) refl refl refl refl n fits
local_told (Store words.Long index) fits = refl
local_told (Store words.Float (Short n)) fits =
    short (λ k. LocalTold (Store words.Float (Short k))) refl refl refl refl n fits
local_told (Store words.Float index) fits = refl
local_told (Store words.Double (Short n)) fits =
    short (λ k. LocalTold (Store words.Double (Short k))) refl refl refl refl n fits
local_told (Store words.Double index) fits = refl
local_told (Store words.Reference (Short n)) fits =
    short (λ k. LocalTold (Store words.Reference (Short k))) refl refl refl refl n fits
local_told (Store words.Reference index) fits = refl
local_told other fits = refl

array_told : (a : Array) → Told (array_opcode a) (array_spelling a)
array_told (arrays.Load elements.Int) = refl
array_told (arrays.Load element) = refl
array_told (arrays.Store elements.Int) = refl
array_told (arrays.Store element) = refl
array_told other = refl

stack_told : (s : StackMove) → Told None (stack_opcode s ∷ [])
stack_told Pop = refl
stack_told other = refl

number_told : (n : Number) → Told (number_opcode n) (numbers.number_opcode n ∷ [])
number_told (Arith Add nums.Int) = refl
number_told (Arith Sub nums.Int) = refl
number_told (Arith Mul nums.Int) = refl
number_told (Arith Div nums.Int) = refl
number_told (Arith Rem nums.Int) = refl
number_told (Arith Neg nums.Int) = refl
number_told (Arith op num) = refl
number_told (Shift Left WholeInt) = refl
number_told (Shift Right WholeInt) = refl
number_told (Shift RightUnsigned WholeInt) = refl
number_told (Shift op whole) = refl
number_told (Bitwise And WholeInt) = refl
number_told (Bitwise Or WholeInt) = refl
number_told (Bitwise Xor WholeInt) = refl
number_told (Bitwise op whole) = refl
number_told (Convert IntToLong) = refl
number_told (Convert conversion) = refl
number_told (Compare CompareLong) = refl
number_told (Compare comparison) = refl

jump_told : (pc : ℕ) (j : Jump) → Told (jump_opcode j) (jump_spelling pc j)
jump_told pc (IfZero Equal target) = refl
jump_told pc (IfZero condition target) = refl
jump_told pc (IfInts Equal target) = refl
jump_told pc (IfInts condition target) = refl
jump_told pc (IfReferences Same target) = refl
jump_told pc (IfReferences equality target) = refl
jump_told pc (IfNull Same target) = refl
jump_told pc (IfNull equality target) = refl
jump_told pc other = refl

return_told : (r : Returned) → Told (return_opcode r) (returns.return_opcode r ∷ [])
return_told Nothing = refl
return_told (Value words.Int) = refl
return_told (Value word) = refl

field_told : (access : FieldUse) (index : List ℕ) → Told None (field_opcode access ∷ index)
field_told GetStatic index = refl
field_told other index = refl

call_told : (c : Call) → Told (call_opcode c) (call_spelling c)
call_told (Virtual index) = refl
call_told other = refl

object_told : (o : Object) → Told (object_opcode o) (object_spelling o)
object_told Throw = refl
object_told other = refl

pub refused : RefusedOpcodes
refused pc instrs.Nop fits = refl
refused pc (instrs.Constant c) fits = constant_told c fits
refused pc (instrs.Local l) fits = local_told l fits
refused pc (instrs.Array a) fits = array_told a
refused pc (instrs.Stack s) fits = stack_told s
refused pc (instrs.Number n) fits = number_told n
refused pc (instrs.Jump j) fits = jump_told pc j
refused pc (instrs.Table s) fits = refl
refused pc (instrs.Lookup s) fits = refl
refused pc (instrs.Return r) fits = return_told r
refused pc (instrs.Field f) fits = field_told f.access (two f.index)
refused pc (instrs.Call c) fits = call_told c
refused pc (instrs.Object o) fits = object_told o
