-- What each instruction does to the shape of a frame (JVM Specification SE 8, 6.5, "Operand Stack"), by families.
-- Instructions on floats and doubles, jsr and ret, invokedynamic, the monitors and multianewarray are not in the
-- profile and have no effect here.
use Rattle.std.specs.Prelude.{ℕ, Bool, true, false, List, [], ◌∷◌, ◌++◌, Option, Some, None, slice_get, option_to_list}
use Rattle.std.specs.Prelude.{option_map, option_and_then}
use Rattle.cf_pool.specs.declared.entry.PoolEntry.{PoolEntry}
use Rattle.cf_pool.specs.declared.entry.PoolEntry.TheVariants as entries
use Rattle.cf_code.specs.declared.word.Word.{Word}
use Rattle.cf_code.specs.declared.word.Word.TheVariants as words
use Rattle.cf_code.specs.declared.word.Returned.{Returned}
use Rattle.cf_code.specs.declared.word.Returned.TheVariants as returns
use Rattle.cf_code.specs.declared.constant.Constant.{Constant}
use Rattle.cf_code.specs.declared.constant.Constant.TheVariants as constants
use Rattle.cf_code.specs.declared.local.LocalIndex.{LocalIndex}
use Rattle.cf_code.specs.declared.local.LocalIndex.TheVariants.{Short, Byte, Wide}
use Rattle.cf_code.specs.declared.local.Local.{Local}
use Rattle.cf_code.specs.declared.local.Local.TheVariants as locals
use Rattle.cf_code.specs.declared.array.Element.{Element}
use Rattle.cf_code.specs.declared.array.Element.TheVariants as elements
use Rattle.cf_code.specs.declared.array.Array.{Array}
use Rattle.cf_code.specs.declared.array.Array.TheVariants as arrays
use Rattle.cf_code.specs.declared.stack.StackMove.{StackMove}
use Rattle.cf_code.specs.declared.stack.StackMove.TheVariants as moves
use Rattle.cf_code.specs.declared.number.Num.{Num}
use Rattle.cf_code.specs.declared.number.Num.TheVariants as nums
use Rattle.cf_code.specs.declared.number.Whole.{Whole}
use Rattle.cf_code.specs.declared.number.Whole.TheVariants.{WholeInt, WholeLong}
use Rattle.cf_code.specs.declared.number.ArithOp.{ArithOp}
use Rattle.cf_code.specs.declared.number.ArithOp.TheVariants.{Neg}
use Rattle.cf_code.specs.declared.number.Conversion.{Conversion}
use Rattle.cf_code.specs.declared.number.Conversion.TheVariants.{IntToLong, LongToInt, IntToByte, IntToChar, IntToShort}
use Rattle.cf_code.specs.declared.number.Comparison.TheVariants.{CompareLong}
use Rattle.cf_code.specs.declared.number.Number.{Number}
use Rattle.cf_code.specs.declared.number.Number.TheVariants.{Arith, Shift, Bitwise, Convert, Compare}
use Rattle.cf_code.specs.declared.jump.Jump.{Jump}
use Rattle.cf_code.specs.declared.jump.Jump.TheVariants as jumps
use Rattle.cf_code.specs.declared.field.FieldUse.{FieldUse}
use Rattle.cf_code.specs.declared.field.FieldUse.TheVariants as uses
use Rattle.cf_code.specs.declared.field.Field.{Field}
use Rattle.cf_code.specs.declared.call.Call.{Call}
use Rattle.cf_code.specs.declared.call.Call.TheVariants as calls
use Rattle.cf_code.specs.declared.object.Object.{Object}
use Rattle.cf_code.specs.declared.object.Object.TheVariants as objects
use Rattle.cf_code.specs.declared.instr.Instr.{Instr}
use Rattle.cf_code.specs.declared.instr.Instr.TheVariants as instrs
use Rattle.bd_scan.specs.Facts.{call_index, called_method}
use Rattle.bd_scan.specs.Pool.{field_at}
use Rattle.ck_shapes.specs.declared.shape.ValueType.{ValueType}
use Rattle.ck_shapes.specs.declared.shape.ValueType.TheVariants.{Int, Long, Reference}
use Rattle.ck_shapes.specs.declared.effect.Move.{Move}
use Rattle.ck_shapes.specs.declared.effect.Effect.{Effect}
use Rattle.ck_shapes.specs.declared.effect.Effect.TheVariants.{Moves, Loads, Stores, Increments, Replaces}
use Rattle.ck_shapes.specs.declared.signature.Signature.{Signature}
use Rattle.ck_shapes.specs.Descriptors.{field_type, signature}

-- ---- effects that push or pop values of types which are not a float's or a double's

abbrev pub pushing : Option ValueType → Option Effect
pushing type = option_map (λ t. Replaces [] (t ∷ [])) type

abbrev pub taking : Option (List ValueType) → Option Effect
taking types = option_map (λ ts. Replaces ts []) types

-- ---- constants

-- the type of a constant that ldc, ldc_w or ldc2_w pushes
abbrev pub entry_type : Option PoolEntry → Option ValueType
entry_type (Some (entries.Integer value)) = Some Int
entry_type (Some (entries.Long value)) = Some Long
entry_type (Some (entries.Str text)) = Some Reference
entry_type (Some (entries.Class name)) = Some Reference
entry_type other = None

abbrev pub constant_type : List PoolEntry → Constant → Option ValueType
constant_type pool constants.Null = Some Reference
constant_type pool (constants.Iconst value) = Some Int
constant_type pool (constants.Bipush value) = Some Int
constant_type pool (constants.Sipush value) = Some Int
constant_type pool (constants.Lconst value) = Some Long
constant_type pool (constants.Ldc index) = entry_type (slice_get pool index)
constant_type pool (constants.LdcW index) = entry_type (slice_get pool index)
constant_type pool (constants.Ldc2W index) = entry_type (slice_get pool index)
constant_type pool other = None

-- ---- locals

abbrev pub word_type : Word → Option ValueType
word_type words.Int = Some Int
word_type words.Long = Some Long
word_type words.Reference = Some Reference
word_type other = None

abbrev pub index_of : LocalIndex → ℕ
index_of (Short n) = n
index_of (Byte n) = n
index_of (Wide n) = n

abbrev pub local_effect : Local → Option Effect
local_effect (locals.Load word index) = option_map (λ t. Loads t (index_of index)) (word_type word)
local_effect (locals.Store word index) = option_map (λ t. Stores t (index_of index)) (word_type word)
local_effect (locals.Iinc index by) = Some (Increments index)
local_effect (locals.IincWide index by) = Some (Increments index)
local_effect other = None

-- ---- arrays

-- the type of an element where it is on the stack: bytes, booleans, chars and shorts are ints there
abbrev pub element_type : Element → Option ValueType
element_type elements.Int = Some Int
element_type elements.Long = Some Long
element_type elements.Reference = Some Reference
element_type elements.Byte = Some Int
element_type elements.Char = Some Int
element_type elements.Short = Some Int
element_type other = None

abbrev pub array_effect : Array → Option Effect
array_effect (arrays.Load element) = option_map (λ t. Replaces (Reference ∷ Int ∷ []) (t ∷ [])) (element_type element)
array_effect (arrays.Store element) = taking (option_map (λ t. Reference ∷ Int ∷ t ∷ []) (element_type element))
array_effect (arrays.New code) = Some (Replaces (Int ∷ []) (Reference ∷ []))
array_effect (arrays.NewOf index) = Some (Replaces (Int ∷ []) (Reference ∷ []))
array_effect arrays.Length = Some (Replaces (Reference ∷ []) (Int ∷ []))
array_effect (arrays.NewMany index dimensions) = None

-- ---- moves on the stack: the words on top, those under them, and whether those of the top are put below and above

abbrev pub moving : ℕ → ℕ → Bool → Bool → Move
moving top under below above = record { top = top; under = under; puts_below = below; puts_above = above }

abbrev pub stack_move : StackMove → Move
stack_move moves.Pop = moving 1 0 false false
stack_move moves.Pop2 = moving 2 0 false false
stack_move moves.Dup = moving 1 0 true true
stack_move moves.DupX1 = moving 1 1 true true
stack_move moves.DupX2 = moving 1 2 true true
stack_move moves.Dup2 = moving 2 0 true true
stack_move moves.Dup2X1 = moving 2 1 true true
stack_move moves.Dup2X2 = moving 2 2 true true
stack_move moves.Swap = moving 1 1 true false

-- ---- numbers

abbrev pub num_type : Num → Option ValueType
num_type nums.Int = Some Int
num_type nums.Long = Some Long
num_type other = None

abbrev pub whole_type : Whole → ValueType
whole_type WholeInt = Int
whole_type WholeLong = Long

-- a negation takes one number, other arithmetic two
abbrev pub arith_takes : ArithOp → ValueType → List ValueType
arith_takes Neg t = t ∷ []
arith_takes other t = t ∷ t ∷ []

-- what a conversion takes and what it gives
abbrev pub conversion_effect : Conversion → Option Effect
conversion_effect IntToLong = Some (Replaces (Int ∷ []) (Long ∷ []))
conversion_effect LongToInt = Some (Replaces (Long ∷ []) (Int ∷ []))
conversion_effect IntToByte = Some (Replaces (Int ∷ []) (Int ∷ []))
conversion_effect IntToChar = Some (Replaces (Int ∷ []) (Int ∷ []))
conversion_effect IntToShort = Some (Replaces (Int ∷ []) (Int ∷ []))
conversion_effect other = None

abbrev pub number_effect : Number → Option Effect
number_effect (Arith op num) = option_map (λ t. Replaces (arith_takes op t) (t ∷ [])) (num_type num)
number_effect (Shift op whole) = Some (Replaces (whole_type whole ∷ Int ∷ []) (whole_type whole ∷ []))
number_effect (Bitwise op whole) = Some (Replaces (whole_type whole ∷ whole_type whole ∷ []) (whole_type whole ∷ []))
number_effect (Convert conversion) = conversion_effect conversion
number_effect (Compare CompareLong) = Some (Replaces (Long ∷ Long ∷ []) (Int ∷ []))
number_effect (Compare other) = None

-- ---- jumps and returns

abbrev pub jump_takes : Jump → Option (List ValueType)
jump_takes (jumps.IfZero condition target) = Some (Int ∷ [])
jump_takes (jumps.IfInts condition target) = Some (Int ∷ Int ∷ [])
jump_takes (jumps.IfReferences equality target) = Some (Reference ∷ Reference ∷ [])
jump_takes (jumps.IfNull equality target) = Some (Reference ∷ [])
jump_takes (jumps.Goto target) = Some []
jump_takes (jumps.GotoW target) = Some []
jump_takes other = None

-- a return takes the result that the method has, or nothing where it has none
abbrev pub return_takes : Option ValueType → Returned → Option (List ValueType)
return_takes None returns.Nothing = Some []
return_takes (Some Int) (returns.Value words.Int) = Some (Int ∷ [])
return_takes (Some Long) (returns.Value words.Long) = Some (Long ∷ [])
return_takes (Some Reference) (returns.Value words.Reference) = Some (Reference ∷ [])
return_takes result other = None

-- ---- fields

abbrev pub use_effect : FieldUse → ValueType → Effect
use_effect uses.GetStatic t = Replaces [] (t ∷ [])
use_effect uses.PutStatic t = Replaces (t ∷ []) []
use_effect uses.Get t = Replaces (Reference ∷ []) (t ∷ [])
use_effect uses.Put t = Replaces (Reference ∷ t ∷ []) []

abbrev pub field_effect : List PoolEntry → Field → Option Effect
field_effect pool field =
    option_map (use_effect field.access) (option_and_then (λ f. field_type f.desc) (field_at pool field.index))

-- ---- calls

-- the object on which a method is called, unless it is static
abbrev pub receiver : Call → List ValueType
receiver (calls.Static index) = []
receiver other = Reference ∷ []

-- the types of the method that is called; invokedynamic names none
abbrev pub called_signature : List PoolEntry → Call → Option Signature
called_signature pool call = option_and_then (λ m. signature m.0.desc) (called_method pool (call_index call))

abbrev pub call_effect : List PoolEntry → Call → Option Effect
call_effect pool call =
    option_map (λ s. Replaces (receiver call ++ s.parameters) (option_to_list s.result)) (called_signature pool call)

-- ---- objects

abbrev pub object_effect : Object → Option Effect
object_effect (objects.New index) = Some (Replaces [] (Reference ∷ []))
object_effect objects.Throw = Some (Replaces (Reference ∷ []) [])
object_effect (objects.CheckCast index) = Some (Replaces (Reference ∷ []) (Reference ∷ []))
object_effect (objects.InstanceOf index) = Some (Replaces (Reference ∷ []) (Int ∷ []))
object_effect other = None

-- ---- all

-- what an instruction does to a shape, in a method with this result
abbrev pub instr_effect : List PoolEntry → Option ValueType → Instr → Option Effect
instr_effect pool result instrs.Nop = Some (Replaces [] [])
instr_effect pool result (instrs.Constant c) = pushing (constant_type pool c)
instr_effect pool result (instrs.Local l) = local_effect l
instr_effect pool result (instrs.Array a) = array_effect a
instr_effect pool result (instrs.Stack s) = Some (Moves (stack_move s))
instr_effect pool result (instrs.Number n) = number_effect n
instr_effect pool result (instrs.Jump j) = taking (jump_takes j)
instr_effect pool result (instrs.Table s) = Some (Replaces (Int ∷ []) [])
instr_effect pool result (instrs.Lookup s) = Some (Replaces (Int ∷ []) [])
instr_effect pool result (instrs.Return r) = taking (return_takes result r)
instr_effect pool result (instrs.Field f) = field_effect pool f
instr_effect pool result (instrs.Call c) = call_effect pool c
instr_effect pool result (instrs.Object o) = object_effect o
