-- What an opcode tells, for proofs alone: how many bytes the instruction has, and the instruction that is no switch.
use Rattle.std.proofs.Common.{◌≡◌, ◌≢◌, ◌+◌, ◌≤◌, ◌^◌, ◌==◌, ◌||◌, ℕ, ℤ, pos, negsuc, List, [], ◌∷◌, ◌++◌}
use Rattle.std.proofs.Common.{Bool, false, Some, get_or, map, take, drop, length, to_z, inl, inr, ap, refl, ◌∙◌, ◌-◌}
use Rattle.std.specs.Prelude.{nat_le, if◌then◌else◌}
use Rattle.std.proofs.Common.{length-append, arith}
use Rattle.std.specs.Int.{w8, w16, w32, from_be_bytes}
use Rattle.std.specs.List.{flat_map}
use Rattle.std.proofs.lemmas.Bool.Decides.{nat_tests}
use Rattle.cf_code.specs.Bytes.{two, signed_two, signed_four, offset, IsTwo}
use Rattle.cf_code.specs.Jumps.{IsNear}
use Rattle.cf_code.specs.Sizes.{fixed_size, wide_size, HasSize}
use Rattle.cf_code.specs.declared.instr.Instr.{Instr}
use Rattle.cf_code.specs.declared.instr.Instr.TheVariants.{Nop, Constant, Local, Array, Stack, Number, Jump}
use Rattle.cf_code.specs.declared.instr.Instr.TheVariants.{Return, Field, Call, Object}
use Rattle.cf_code.specs.declared.constant.Constant.TheVariants as constant
use Rattle.cf_code.specs.declared.word.Word.{Word}
use Rattle.cf_code.specs.declared.word.Word.TheVariants as word
use Rattle.cf_code.specs.declared.word.Returned.TheVariants as returned
use Rattle.cf_code.specs.declared.local.Local.{Local as TheLocal}
use Rattle.cf_code.specs.declared.local.Local.TheVariants as local
use Rattle.cf_code.specs.declared.local.LocalIndex.{LocalIndex}
use Rattle.cf_code.specs.declared.local.LocalIndex.TheVariants as index
use Rattle.cf_code.specs.declared.array.Array.{Array as TheArray}
use Rattle.cf_code.specs.declared.array.Array.TheVariants as array
use Rattle.cf_code.specs.declared.array.Element.{Element}
use Rattle.cf_code.specs.declared.array.Element.TheVariants as element
use Rattle.cf_code.specs.declared.stack.StackMove.TheVariants as stack
use Rattle.cf_code.specs.declared.number.Number.TheVariants as number
use Rattle.cf_code.specs.declared.number.Num.TheVariants as num
use Rattle.cf_code.specs.declared.number.Whole.TheVariants as whole
use Rattle.cf_code.specs.declared.number.ArithOp.{ArithOp}
use Rattle.cf_code.specs.declared.number.ArithOp.TheVariants as arith_op
use Rattle.cf_code.specs.declared.number.ShiftOp.{ShiftOp}
use Rattle.cf_code.specs.declared.number.ShiftOp.TheVariants as shift
use Rattle.cf_code.specs.declared.number.BitOp.{BitOp}
use Rattle.cf_code.specs.declared.number.BitOp.TheVariants as bit
use Rattle.cf_code.specs.declared.number.Conversion.TheVariants as conversion
use Rattle.cf_code.specs.declared.number.Comparison.TheVariants as comparison
use Rattle.cf_code.specs.declared.jump.Jump.{Jump as TheJump}
use Rattle.cf_code.specs.declared.jump.Jump.TheVariants as jump
use Rattle.cf_code.specs.declared.jump.Condition.{Condition}
use Rattle.cf_code.specs.declared.jump.Condition.TheVariants as condition
use Rattle.cf_code.specs.declared.jump.Equality.{Equality}
use Rattle.cf_code.specs.declared.jump.Equality.TheVariants as equality
use Rattle.cf_code.specs.declared.field.FieldUse.{FieldUse}
use Rattle.cf_code.specs.declared.field.FieldUse.TheVariants as access
use Rattle.cf_code.specs.declared.call.Call.TheVariants as call
use Rattle.cf_code.specs.declared.object.Object.TheVariants as object
use Rattle.cf_code.proofs.ByteLemmas.{two_back, signed_two_back, signed_four_back, at_offset, at_offset_back, far_fits}

-- ---- sizes

-- the opcodes whose operands tell the size
abbrev is_open : ℕ → Bool
is_open n = (n == 170) || (n == 171) || (n == 196)

-- an opcode that alone tells so many bytes
abbrev pub Tells : ℕ → ℕ → Type 0
Tells opcode size = (is_open opcode ≡ false) × (fixed_size opcode ≡ Some size)

-- an opcode that is not open is none of the three
not_open : (opcode : ℕ) → is_open opcode ≡ false → (opcode ≢ 170) × (opcode ≢ 171) × (opcode ≢ 196)
not_open opcode h = (λ e. grind (arith, nat_tests), λ e. grind (arith, nat_tests), λ e. grind (arith, nat_tests))

-- so many bytes are there, whatever follows them
pub all_there : (operands rest : List ℕ) (opcode : ℕ) → length (opcode ∷ operands) ≤ length (operands ++ rest) + 1
all_there operands rest opcode = omega (arith, length-append operands rest)

-- an opcode that alone tells the size
pub fixed_sized : (pc opcode : ℕ) (operands rest : List ℕ) → Tells opcode (length (opcode ∷ operands))
    → HasSize pc (opcode ∷ operands ++ rest) (length (opcode ∷ operands))
fixed_sized pc opcode operands rest tells =
    let n = not_open opcode tells.0 in
    (inr (inr (inr (n.0, n.1, n.2, tells.1))), all_there operands rest opcode)

-- what stands behind wide tells the size
pub wide_sized : (pc opcode : ℕ) (operands rest : List ℕ)
    → wide_size (opcode ∷ operands ++ rest) ≡ Some (length (196 ∷ opcode ∷ operands))
    → HasSize pc (196 ∷ opcode ∷ operands ++ rest) (length (196 ∷ opcode ∷ operands))
wide_sized pc opcode operands rest tells = (inr (inr (inl (refl, tells))), all_there (opcode ∷ operands) rest 196)

-- ---- what stands behind an opcode

-- the instruction at a pc, by what stands behind its opcode
abbrev Reading : Type 0
Reading = ℕ → List ℕ → Instr

abbrev alone : Instr → Reading
alone i = λ pc rest. i

abbrev byte : (ℕ → Instr) → Reading
byte f = λ pc rest. f (get_or rest 0 0)

abbrev pair : (ℕ → Instr) → Reading
pair f = λ pc rest. f (from_be_bytes w16 rest)

abbrev near : (ℕ → Instr) → Reading
near f = λ pc rest. f (at_offset pc (to_z w16 (from_be_bytes w16 rest)))

abbrev far : (ℕ → Instr) → Reading
far f = λ pc rest. f (at_offset pc (to_z w32 (from_be_bytes w32 rest)))

pub pair_back : (f : ℕ → Instr) (pc n : ℕ) → IsTwo n → pair f pc (two n) ≡ f n
pair_back f pc n a = ap f (two_back n a)

pub near_back : (f : ℕ → Instr) (pc target : ℕ) → IsNear pc target
    → near f pc (signed_two (offset pc target)) ≡ f target
near_back f pc target a =
    ap (λ (z : ℤ). f (at_offset pc z)) (signed_two_back (offset pc target) a.1) ∙ ap f (at_offset_back pc target)

pub far_back : (f : ℕ → Instr) (pc target : ℕ) → pc ≤ 2 ^ 31 → IsTwo target
    → far f pc (signed_four (offset pc target)) ≡ f target
far_back f pc target reach a =
    ap (λ (z : ℤ). f (at_offset pc z)) (signed_four_back (offset pc target) (far_fits pc target reach a))
    ∙ ap f (at_offset_back pc target)

-- ---- the instruction of each opcode

abbrev words : List Word
words = word.Int ∷ word.Long ∷ word.Float ∷ word.Double ∷ word.Reference ∷ []

abbrev elements : List Element
elements =
    element.Int ∷ element.Long ∷ element.Float ∷ element.Double ∷ element.Reference ∷
    element.Byte ∷ element.Char ∷ element.Short ∷ []

abbrev conditions : List Condition
conditions =
    condition.Equal ∷ condition.NotEqual ∷ condition.Less ∷ condition.AtLeast ∷ condition.Greater ∷ condition.AtMost ∷
    []

-- loads or stores: with an index of a byte, and then the short forms of each type
abbrev accesses : (Word → LocalIndex → TheLocal) → List Reading
accesses of =
    map (λ w. byte (λ n. Local (of w (index.Byte n)))) words
    ++ flat_map (λ w. map (λ n. alone (Local (of w (index.Short n)))) (0 ∷ 1 ∷ 2 ∷ 3 ∷ [])) words

abbrev on_elements : (Element → TheArray) → List Reading
on_elements of = map (λ e. alone (Array (of e))) elements

abbrev on_nums : ArithOp → List Reading
on_nums op = map (λ n. alone (Number (number.Arith op n))) (num.Int ∷ num.Long ∷ num.Float ∷ num.Double ∷ [])

abbrev shifts : ShiftOp → List Reading
shifts op = map (λ w. alone (Number (number.Shift op w))) (whole.WholeInt ∷ whole.WholeLong ∷ [])

abbrev bitwise : BitOp → List Reading
bitwise op = map (λ w. alone (Number (number.Bitwise op w))) (whole.WholeInt ∷ whole.WholeLong ∷ [])

abbrev on_conditions : (Condition → ℕ → TheJump) → List Reading
on_conditions of = map (λ c. near (λ t. Jump (of c t))) conditions

abbrev on_equalities : (Equality → ℕ → TheJump) → List Reading
on_equalities of = map (λ e. near (λ t. Jump (of e t))) (equality.Same ∷ equality.Other ∷ [])

abbrev on_field : FieldUse → Reading
on_field access = pair (λ n. Field (record { access = access; index = n }))

-- behind wide: iinc or ret, a load or a store
abbrev wide : ℕ → List ℕ → TheLocal
wide opcode rest =
    if opcode == 132 then local.IincWide (from_be_bytes w16 (take 2 rest)) (to_z w16 (from_be_bytes w16 (drop 2 rest)))
    else if opcode == 169 then local.RetWide (from_be_bytes w16 rest)
    else if nat_le opcode 25 then local.Load (get_or words (opcode - 21) word.Int) (index.Wide (from_be_bytes w16 rest))
    else local.Store (get_or words (opcode - 54) word.Int) (index.Wide (from_be_bytes w16 rest))

-- opcodes 0 to 95: constants, loads, stores and moves on the operand stack
abbrev low_readings : List Reading
low_readings =
    alone Nop ∷ alone (Constant constant.Null)
    ∷ map (λ z. alone (Constant (constant.Iconst z))) (negsuc 0 ∷ map pos (0 ∷ 1 ∷ 2 ∷ 3 ∷ 4 ∷ 5 ∷ []))
    ++ map (λ n. alone (Constant (constant.Lconst n))) (0 ∷ 1 ∷ [])
    ++ map (λ n. alone (Constant (constant.Fconst n))) (0 ∷ 1 ∷ 2 ∷ [])
    ++ map (λ n. alone (Constant (constant.Dconst n))) (0 ∷ 1 ∷ [])
    ++ byte (λ n. Constant (constant.Bipush (to_z w8 n)))
    ∷ pair (λ n. Constant (constant.Sipush (to_z w16 n)))
    ∷ byte (λ n. Constant (constant.Ldc n))
    ∷ pair (λ n. Constant (constant.LdcW n))
    ∷ pair (λ n. Constant (constant.Ldc2W n))
    ∷ accesses local.Load ++ on_elements array.Load ++ accesses local.Store ++ on_elements array.Store
    ++ map (λ s. alone (Stack s)) (
    stack.Pop ∷ stack.Pop2 ∷ stack.Dup ∷ stack.DupX1 ∷ stack.DupX2 ∷ stack.Dup2 ∷ stack.Dup2X1 ∷ stack.Dup2X2 ∷
    stack.Swap ∷ []
    )

-- opcodes 96 to 152: the numbers, and iinc among them
abbrev number_readings : List Reading
number_readings =
    on_nums arith_op.Add ++ on_nums arith_op.Sub ++ on_nums arith_op.Mul ++ on_nums arith_op.Div
    ++ on_nums arith_op.Rem ++ on_nums arith_op.Neg
    ++ shifts shift.Left ++ shifts shift.Right ++ shifts shift.RightUnsigned
    ++ bitwise bit.And ++ bitwise bit.Or ++ bitwise bit.Xor
    ++ (λ pc rest. Local (local.Iinc (get_or rest 0 0) (to_z w8 (get_or rest 1 0))))
    ∷ map (λ c. alone (Number (number.Convert c))) (
    conversion.IntToLong ∷ conversion.IntToFloat ∷ conversion.IntToDouble ∷ conversion.LongToInt ∷
    conversion.LongToFloat ∷ conversion.LongToDouble ∷ conversion.FloatToInt ∷ conversion.FloatToLong ∷
    conversion.FloatToDouble ∷ conversion.DoubleToInt ∷ conversion.DoubleToLong ∷ conversion.DoubleToFloat ∷
    conversion.IntToByte ∷ conversion.IntToChar ∷ conversion.IntToShort ∷ []
    )
    ++ map (λ c. alone (Number (number.Compare c))) (
    comparison.CompareLong ∷ comparison.CompareFloatLess ∷ comparison.CompareFloatGreater ∷
    comparison.CompareDoubleLess ∷ comparison.CompareDoubleGreater ∷ []
    )

-- opcodes 153 to 201: jumps and returns, fields, calls, objects and wide; the switches are none of these
abbrev high_readings : List Reading
high_readings =
    on_conditions jump.IfZero ++ on_conditions jump.IfInts ++ on_equalities jump.IfReferences
    ++ near (λ t. Jump (jump.Goto t)) ∷ near (λ t. Jump (jump.Jsr t)) ∷ byte (λ n. Local (local.Ret n))
    ∷ alone Nop ∷ alone Nop
    ∷ map (λ w. alone (Return (returned.Value w))) words ++ alone (Return returned.Nothing)
    ∷ on_field access.GetStatic ∷ on_field access.PutStatic ∷ on_field access.Get ∷ on_field access.Put
    ∷ pair (λ n. Call (call.Virtual n)) ∷ pair (λ n. Call (call.Special n)) ∷ pair (λ n. Call (call.Static n))
    ∷ (λ pc rest. Call (call.Interface (from_be_bytes w16 (take 2 rest)) (get_or rest 2 0) (get_or rest 3 0)))
    ∷ (λ pc rest. Call (call.Dynamic (from_be_bytes w16 (take 2 rest)) (from_be_bytes w16 (drop 2 rest))))
    ∷ pair (λ n. Object (object.New n))
    ∷ byte (λ n. Array (array.New n)) ∷ pair (λ n. Array (array.NewOf n)) ∷ alone (Array array.Length)
    ∷ alone (Object object.Throw) ∷ pair (λ n. Object (object.CheckCast n)) ∷ pair (λ n. Object (object.InstanceOf n))
    ∷ alone (Object object.MonitorEnter) ∷ alone (Object object.MonitorExit)
    ∷ (λ pc rest. Local (wide (get_or rest 0 0) (drop 1 rest)))
    ∷ (λ pc rest. Array (array.NewMany (from_be_bytes w16 (take 2 rest)) (get_or rest 2 0)))
    ∷ on_equalities jump.IfNull
    ++ far (λ t. Jump (jump.GotoW t)) ∷ far (λ t. Jump (jump.JsrW t)) ∷ []

-- the plain instruction that bytes at a pc begin with
abbrev pub read : ℕ → List ℕ → Instr
read pc [] = Nop
read pc (opcode ∷ rest) = get_or (low_readings ++ number_readings ++ high_readings) opcode (alone Nop) pc rest

-- an opcode that stands alone is read as this instruction, and tells its size
abbrev pub IsAlone : ℕ → Instr → Type 0
IsAlone opcode i = ((pc : ℕ) → read pc (opcode ∷ []) ≡ i) × Tells opcode 1
