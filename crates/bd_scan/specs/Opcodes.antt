-- The opcodes that are not supported (JVM Specification SE 8, 6.5): instructions on floats and doubles, jsr and ret,
-- invokedynamic, the monitors and multianewarray. What stands behind `wide` goes by its own opcode. The numbers of
-- short forms are bounded so that each value has an opcode; an instruction has no greater ones.
use Rattle.std.specs.Prelude.{ℕ, ◌+◌, Bool, true, false, Option, Some, None, min, if◌then◌else◌}
use Rattle.cf_code.specs.declared.word.Word.TheVariants as words
use Rattle.cf_code.specs.declared.word.Returned.{Returned}
use Rattle.cf_code.specs.declared.word.Returned.TheVariants.{Value}
use Rattle.cf_code.specs.declared.constant.Constant.{Constant}
use Rattle.cf_code.specs.declared.constant.Constant.TheVariants.{Fconst, Dconst}
use Rattle.cf_code.specs.declared.local.LocalIndex.{LocalIndex}
use Rattle.cf_code.specs.declared.local.LocalIndex.TheVariants.{Short, Byte, Wide}
use Rattle.cf_code.specs.declared.local.Local.{Local}
use Rattle.cf_code.specs.declared.local.Local.TheVariants.{Load, Store, Ret, RetWide}
use Rattle.cf_code.specs.declared.array.Element.TheVariants as elements
use Rattle.cf_code.specs.declared.array.Array.{Array}
use Rattle.cf_code.specs.declared.array.Array.TheVariants as arrays
use Rattle.cf_code.specs.declared.number.Num.TheVariants as nums
use Rattle.cf_code.specs.declared.number.Conversion.{Conversion}
use Rattle.cf_code.specs.declared.number.Conversion.TheVariants.{IntToLong, LongToInt, IntToByte, IntToChar, IntToShort}
use Rattle.cf_code.specs.declared.number.Comparison.{Comparison}
use Rattle.cf_code.specs.declared.number.Comparison.TheVariants.{CompareLong}
use Rattle.cf_code.specs.declared.number.Number.{Number}
use Rattle.cf_code.specs.declared.number.Number.TheVariants.{Arith, Convert, Compare}
use Rattle.cf_code.specs.declared.jump.Jump.{Jump}
use Rattle.cf_code.specs.declared.jump.Jump.TheVariants.{Jsr, JsrW}
use Rattle.cf_code.specs.declared.call.Call.{Call}
use Rattle.cf_code.specs.declared.call.Call.TheVariants.{Dynamic}
use Rattle.cf_code.specs.declared.object.Object.{Object}
use Rattle.cf_code.specs.declared.object.Object.TheVariants.{MonitorEnter, MonitorExit}
use Rattle.cf_code.specs.declared.instr.Instr.{Instr}
use Rattle.cf_code.specs.declared.instr.Instr.TheVariants as instrs
use Rattle.cf_code.specs.Locals.{load_first, load_opcode, store_first, store_opcode}
use Rattle.cf_code.specs.Arrays.{array_load_opcode, array_store_opcode}
use Rattle.cf_code.specs.Numbers.{arith_opcode, conversion_opcode, comparison_opcode}

-- fconst_0 to fconst_2, dconst_0 and dconst_1
abbrev pub constant_opcode : Constant → Option ℕ
constant_opcode (Fconst n) = Some (11 + min n 2)
constant_opcode (Dconst n) = Some (14 + min n 1)
constant_opcode other = None

-- an access whose short forms begin at one opcode, and whose other forms have another
abbrev pub access_opcode : ℕ → ℕ → LocalIndex → ℕ
access_opcode first opcode (Short n) = first + min n 3
access_opcode first opcode (Byte n) = opcode
access_opcode first opcode (Wide n) = opcode

-- fload and dload, fload_0 to dload_3; fstore and dstore, fstore_0 to dstore_3; ret
abbrev pub local_opcode : Local → Option ℕ
local_opcode (Load words.Float index) = Some (access_opcode (load_first words.Float) (load_opcode words.Float) index)
local_opcode (Load words.Double index) = Some (access_opcode (load_first words.Double) (load_opcode words.Double) index)
local_opcode (Store words.Float index) = Some (access_opcode (store_first words.Float) (store_opcode words.Float) index)
local_opcode (Store words.Double index) =
    Some (access_opcode (store_first words.Double) (store_opcode words.Double) index)
local_opcode (Ret n) = Some 169
local_opcode (RetWide n) = Some 169
local_opcode other = None

-- faload, daload, fastore, dastore; multianewarray
abbrev pub array_opcode : Array → Option ℕ
array_opcode (arrays.Load elements.Float) = Some (array_load_opcode elements.Float)
array_opcode (arrays.Load elements.Double) = Some (array_load_opcode elements.Double)
array_opcode (arrays.Store elements.Float) = Some (array_store_opcode elements.Float)
array_opcode (arrays.Store elements.Double) = Some (array_store_opcode elements.Double)
array_opcode (arrays.NewMany index dimensions) = Some 197
array_opcode other = None

-- the conversions that neither take nor give a float or a double: i2l, l2i, i2b, i2c, i2s
abbrev pub is_whole : Conversion → Bool
is_whole IntToLong = true
is_whole LongToInt = true
is_whole IntToByte = true
is_whole IntToChar = true
is_whole IntToShort = true
is_whole other = false

-- the conversions from or to a float or a double: i2f to d2f
abbrev pub real_conversion : Conversion → Option ℕ
real_conversion conversion = if is_whole conversion then None else Some (conversion_opcode conversion)

-- fcmpl, fcmpg, dcmpl, dcmpg
abbrev pub real_comparison : Comparison → Option ℕ
real_comparison CompareLong = None
real_comparison comparison = Some (comparison_opcode comparison)

-- fadd to dneg, conversions and comparisons
abbrev pub number_opcode : Number → Option ℕ
number_opcode (Arith op nums.Float) = Some (arith_opcode op nums.Float)
number_opcode (Arith op nums.Double) = Some (arith_opcode op nums.Double)
number_opcode (Convert conversion) = real_conversion conversion
number_opcode (Compare comparison) = real_comparison comparison
number_opcode other = None

-- jsr, jsr_w
abbrev pub jump_opcode : Jump → Option ℕ
jump_opcode (Jsr target) = Some 168
jump_opcode (JsrW target) = Some 201
jump_opcode other = None

-- freturn, dreturn
abbrev pub return_opcode : Returned → Option ℕ
return_opcode (Value words.Float) = Some 174
return_opcode (Value words.Double) = Some 175
return_opcode other = None

-- invokedynamic
abbrev pub call_opcode : Call → Option ℕ
call_opcode (Dynamic index zeros) = Some 186
call_opcode other = None

-- monitorenter, monitorexit
abbrev pub object_opcode : Object → Option ℕ
object_opcode MonitorEnter = Some 194
object_opcode MonitorExit = Some 195
object_opcode other = None

-- the opcode of an instruction that is not supported
abbrev pub unsupported_opcode : Instr → Option ℕ
unsupported_opcode (instrs.Constant c) = constant_opcode c
unsupported_opcode (instrs.Local l) = local_opcode l
unsupported_opcode (instrs.Array a) = array_opcode a
unsupported_opcode (instrs.Number n) = number_opcode n
unsupported_opcode (instrs.Jump j) = jump_opcode j
unsupported_opcode (instrs.Return r) = return_opcode r
unsupported_opcode (instrs.Call c) = call_opcode c
unsupported_opcode (instrs.Object o) = object_opcode o
unsupported_opcode other = None
