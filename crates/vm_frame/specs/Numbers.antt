-- The instructions on ints and longs (JVM Specification SE 8, 6.5, and 2.11.3), in the terms of integers: the exact result is
-- wrapped to 32 or 64 bits.
use Rattle.std.specs.Prelude.{ℕ, ℤ, pos, negsuc, ◌+ℤ◌, ◌-ℤ◌, ◌*ℤ◌, neg_ℤ, int_div, int_rem, int_lt, unsigned_abs, ◌/◌, ◌^◌}
use Rattle.std.specs.Prelude.{Bool, true, false, ◌&&◌, if◌then◌else◌, List, Option, Some, None}
use Rattle.std.specs.Int.{Width, w8, w16, w32, w64, int_wrap, int_rem_euclid, cast_signed, cast_unsigned}
use Rattle.std.specs.Int.{int_bit_and, int_bit_or, int_bit_xor}
use Rattle.std.specs.Ordering.{int_eq}
use Rattle.jv_base.specs.declared.method.Kind.TheVariants.{Zero}
use Rattle.jv_base.specs.declared.value.Value.{Value}
use Rattle.jv_base.specs.declared.value.Value.TheVariants as values
use Rattle.cf_code.specs.declared.number.ArithOp.{ArithOp}
use Rattle.cf_code.specs.declared.number.ArithOp.TheVariants.{Add, Sub, Mul, Div, Rem, Neg}
use Rattle.cf_code.specs.declared.number.ShiftOp.{ShiftOp}
use Rattle.cf_code.specs.declared.number.ShiftOp.TheVariants.{Left, Right, RightUnsigned}
use Rattle.cf_code.specs.declared.number.BitOp.{BitOp}
use Rattle.cf_code.specs.declared.number.BitOp.TheVariants.{And, Or, Xor}
use Rattle.cf_code.specs.declared.number.Num.TheVariants.{Int, Long}
use Rattle.cf_code.specs.declared.number.Whole.TheVariants.{WholeInt, WholeLong}
use Rattle.cf_code.specs.declared.number.Conversion.{Conversion}
use Rattle.cf_code.specs.declared.number.Conversion.TheVariants.{IntToLong, LongToInt, IntToByte, IntToChar, IntToShort}
use Rattle.cf_code.specs.declared.number.Comparison.TheVariants.{CompareLong}
use Rattle.cf_code.specs.declared.number.Number.{Number}
use Rattle.cf_code.specs.declared.number.Number.TheVariants.{Arith, Shift, Bitwise, Convert, Compare}
use Rattle.vm_frame.specs.declared.effect.FrameEffect.{FrameEffect}
use Rattle.vm_frame.specs.declared.effect.FrameEffect.TheVariants.{Gives, Raises, Sticks}
use Rattle.vm_frame.specs.Operands.{top, int_in, long_in, two_ints, two_longs, long_and_int}

-- ---- arithmetic

-- the exact sum, difference and product; the quotient rounded toward zero, and what it leaves, which has the sign of the
-- dividend; a negation takes the second operand alone
abbrev pub exact : ArithOp → ℤ → ℤ → ℤ
exact Add a b = a +ℤ b
exact Sub a b = a -ℤ b
exact Mul a b = a *ℤ b
exact Div a b = int_div a b
exact Rem a b = int_rem a b
exact Neg a b = neg_ℤ b

-- 6.5 iadd, ladd, and so on to lneg: the exact result, wrapped to the bits of the type. So the least number divided by -1 is
-- itself, with nothing left.
abbrev pub arith : Width → ArithOp → ℤ → ℤ → ℤ
arith w op a b = int_wrap w (exact op a b)

-- 6.5 idiv, irem, ldiv, lrem: by 0 they raise zero
abbrev pub divides : ArithOp → Bool
divides Div = true
divides Rem = true
divides op = false

abbrev pub negates : ArithOp → Bool
negates Neg = true
negates op = false

-- what comes of an operation on two numbers; the fault test comes first
abbrev pub arith_given : ArithOp → (ℤ → Value) → Width → Option (ℤ × ℤ) → FrameEffect
arith_given op value w None = Sticks
arith_given op value w (Some (a, b)) =
    if divides op && int_eq b (pos 0) then Raises Zero else Gives 2 (value (arith w op a b))

abbrev pub negation_given : (ℤ → Value) → Width → Option ℤ → FrameEffect
negation_given value w None = Sticks
negation_given value w (Some b) = Gives 1 (value (arith w Neg (pos 0) b))

abbrev pub int_arith_effect : ArithOp → List Value → FrameEffect
int_arith_effect op stack =
    if negates op then negation_given values.Int w32 (int_in (top stack))
    else arith_given op values.Int w32 (two_ints stack)

abbrev pub long_arith_effect : ArithOp → List Value → FrameEffect
long_arith_effect op stack =
    if negates op then negation_given values.Long w64 (long_in (top stack))
    else arith_given op values.Long w64 (two_longs stack)

-- ---- shifts

-- the distance of a shift of a type of so many bits: an int modulo that number
abbrev pub distance : ℕ → ℤ → ℕ
distance bits d = unsigned_abs (int_rem_euclid d (pos bits))

-- a number divided by a positive one, rounded down
abbrev pub floor_of : ℤ → ℕ → ℤ
floor_of (pos a) d = pos (a / d)
floor_of (negsuc a) d = negsuc (a / d)

-- 6.5 ishl, lshl: times 2 to the power of the distance, wrapped. ishr, lshr: divided by that power, rounded down. iushr,
-- lushr: the same of the number whose bits have no sign.
abbrev pub shifted : Width → ShiftOp → ℤ → ℕ → ℤ
shifted w Left a s = int_wrap w (a *ℤ pos (2 ^ s))
shifted w Right a s = floor_of a (2 ^ s)
shifted w RightUnsigned a s = cast_signed w (cast_unsigned w a / 2 ^ s)

abbrev pub int_shift_given : ShiftOp → Option (ℤ × ℤ) → FrameEffect
int_shift_given op None = Sticks
int_shift_given op (Some (a, d)) = Gives 2 (values.Int (shifted w32 op a (distance 32 d)))

abbrev pub long_shift_given : ShiftOp → Option (ℤ × ℤ) → FrameEffect
long_shift_given op None = Sticks
long_shift_given op (Some (a, d)) = Gives 2 (values.Long (shifted w64 op a (distance 64 d)))

-- ---- bits

-- 6.5 iand, land, ior, lor, ixor, lxor: bit by bit, in two's complement
abbrev pub bitwise : Width → BitOp → ℤ → ℤ → ℤ
bitwise w And a b = int_bit_and w a b
bitwise w Or a b = int_bit_or w a b
bitwise w Xor a b = int_bit_xor w a b

abbrev pub bitwise_given : BitOp → (ℤ → Value) → Width → Option (ℤ × ℤ) → FrameEffect
bitwise_given op value w None = Sticks
bitwise_given op value w (Some (a, b)) = Gives 2 (value (bitwise w op a b))

-- ---- conversions

abbrev pub gives_int : (ℤ → ℤ) → Option ℤ → FrameEffect
gives_int f None = Sticks
gives_int f (Some n) = Gives 1 (values.Int (f n))

abbrev pub gives_long : Option ℤ → FrameEffect
gives_long None = Sticks
gives_long (Some n) = Gives 1 (values.Long n)

-- 6.5 i2l: the same number. l2i, i2b, i2s: wrapped to 32, 8 and 16 bits. i2c: modulo 2 ^ 16.
abbrev pub conversion_effect : Conversion → List Value → FrameEffect
conversion_effect IntToLong stack = gives_long (int_in (top stack))
conversion_effect LongToInt stack = gives_int (int_wrap w32) (long_in (top stack))
conversion_effect IntToByte stack = gives_int (int_wrap w8) (int_in (top stack))
conversion_effect IntToChar stack = gives_int (λ n. int_rem_euclid n (pos 65536)) (int_in (top stack))
conversion_effect IntToShort stack = gives_int (int_wrap w16) (int_in (top stack))
conversion_effect conversion stack = Sticks

-- ---- comparison

-- 6.5 lcmp: 1 where the first is greater, 0 where they are equal, -1 where it is less
abbrev pub compared : ℤ → ℤ → ℤ
compared a b = if int_lt a b then negsuc 0 else (if int_eq a b then pos 0 else pos 1)

abbrev pub compared_given : Option (ℤ × ℤ) → FrameEffect
compared_given None = Sticks
compared_given (Some (a, b)) = Gives 2 (values.Int (compared a b))

-- ---- all; no value is a float or a double

abbrev pub number_effect : Number → List Value → FrameEffect
number_effect (Arith op Int) stack = int_arith_effect op stack
number_effect (Arith op Long) stack = long_arith_effect op stack
number_effect (Shift op WholeInt) stack = int_shift_given op (two_ints stack)
number_effect (Shift op WholeLong) stack = long_shift_given op (long_and_int stack)
number_effect (Bitwise op WholeInt) stack = bitwise_given op values.Int w32 (two_ints stack)
number_effect (Bitwise op WholeLong) stack = bitwise_given op values.Long w64 (two_longs stack)
number_effect (Convert conversion) stack = conversion_effect conversion stack
number_effect (Compare CompareLong) stack = compared_given (two_longs stack)
number_effect number stack = Sticks
