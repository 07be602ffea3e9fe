-- The opcodes of arithmetic, shifts, bitwise operations, conversions and comparisons (JVM Specification SE 8, 6.5).
use Rattle.std.specs.Prelude.{ℕ}
use Rattle.cf_code.specs.declared.number.Num.{Num}
use Rattle.cf_code.specs.declared.number.Num.TheVariants.{Int, Long, Float, Double}
use Rattle.cf_code.specs.declared.number.Whole.{Whole}
use Rattle.cf_code.specs.declared.number.Whole.TheVariants.{WholeInt, WholeLong}
use Rattle.cf_code.specs.declared.number.ArithOp.{ArithOp}
use Rattle.cf_code.specs.declared.number.ArithOp.TheVariants.{Add, Sub, Mul, Div, Rem, Neg}
use Rattle.cf_code.specs.declared.number.ShiftOp.{ShiftOp}
use Rattle.cf_code.specs.declared.number.ShiftOp.TheVariants.{Left, Right, RightUnsigned}
use Rattle.cf_code.specs.declared.number.BitOp.{BitOp}
use Rattle.cf_code.specs.declared.number.BitOp.TheVariants.{And, Or, Xor}
use Rattle.cf_code.specs.declared.number.Conversion.{Conversion}
use Rattle.cf_code.specs.declared.number.Conversion.TheVariants.{IntToLong, IntToFloat, IntToDouble, LongToInt, LongToFloat, LongToDouble, FloatToInt, FloatToLong, FloatToDouble, DoubleToInt, DoubleToLong, DoubleToFloat, IntToByte, IntToChar, IntToShort}
use Rattle.cf_code.specs.declared.number.Comparison.{Comparison}
use Rattle.cf_code.specs.declared.number.Comparison.TheVariants.{CompareLong, CompareFloatLess, CompareFloatGreater, CompareDoubleLess, CompareDoubleGreater}
use Rattle.cf_code.specs.declared.number.Number.{Number}
use Rattle.cf_code.specs.declared.number.Number.TheVariants.{Arith, Shift, Bitwise, Convert, Compare}

-- iadd, ladd, fadd, dadd, and so on to dneg
abbrev pub arith_opcode : ArithOp → Num → ℕ
arith_opcode Add Int = 96
arith_opcode Add Long = 97
arith_opcode Add Float = 98
arith_opcode Add Double = 99
arith_opcode Sub Int = 100
arith_opcode Sub Long = 101
arith_opcode Sub Float = 102
arith_opcode Sub Double = 103
arith_opcode Mul Int = 104
arith_opcode Mul Long = 105
arith_opcode Mul Float = 106
arith_opcode Mul Double = 107
arith_opcode Div Int = 108
arith_opcode Div Long = 109
arith_opcode Div Float = 110
arith_opcode Div Double = 111
arith_opcode Rem Int = 112
arith_opcode Rem Long = 113
arith_opcode Rem Float = 114
arith_opcode Rem Double = 115
arith_opcode Neg Int = 116
arith_opcode Neg Long = 117
arith_opcode Neg Float = 118
arith_opcode Neg Double = 119

-- ishl, lshl, ishr, lshr, iushr, lushr
abbrev pub shift_opcode : ShiftOp → Whole → ℕ
shift_opcode Left WholeInt = 120
shift_opcode Left WholeLong = 121
shift_opcode Right WholeInt = 122
shift_opcode Right WholeLong = 123
shift_opcode RightUnsigned WholeInt = 124
shift_opcode RightUnsigned WholeLong = 125

-- iand, land, ior, lor, ixor, lxor
abbrev pub bit_opcode : BitOp → Whole → ℕ
bit_opcode And WholeInt = 126
bit_opcode And WholeLong = 127
bit_opcode Or WholeInt = 128
bit_opcode Or WholeLong = 129
bit_opcode Xor WholeInt = 130
bit_opcode Xor WholeLong = 131

-- i2l, i2f, i2d, l2i, l2f, l2d, f2i, f2l, f2d, d2i, d2l, d2f, i2b, i2c, i2s
abbrev pub conversion_opcode : Conversion → ℕ
conversion_opcode IntToLong = 133
conversion_opcode IntToFloat = 134
conversion_opcode IntToDouble = 135
conversion_opcode LongToInt = 136
conversion_opcode LongToFloat = 137
conversion_opcode LongToDouble = 138
conversion_opcode FloatToInt = 139
conversion_opcode FloatToLong = 140
conversion_opcode FloatToDouble = 141
conversion_opcode DoubleToInt = 142
conversion_opcode DoubleToLong = 143
conversion_opcode DoubleToFloat = 144
conversion_opcode IntToByte = 145
conversion_opcode IntToChar = 146
conversion_opcode IntToShort = 147

-- lcmp, fcmpl, fcmpg, dcmpl, dcmpg
abbrev pub comparison_opcode : Comparison → ℕ
comparison_opcode CompareLong = 148
comparison_opcode CompareFloatLess = 149
comparison_opcode CompareFloatGreater = 150
comparison_opcode CompareDoubleLess = 151
comparison_opcode CompareDoubleGreater = 152

-- the opcode of an instruction on numbers, which has no operand in the code
abbrev pub number_opcode : Number → ℕ
number_opcode (Arith op num) = arith_opcode op num
number_opcode (Shift op whole) = shift_opcode op whole
number_opcode (Bitwise op whole) = bit_opcode op whole
number_opcode (Convert conversion) = conversion_opcode conversion
number_opcode (Compare comparison) = comparison_opcode comparison
