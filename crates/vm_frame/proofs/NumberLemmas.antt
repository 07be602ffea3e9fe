-- What holds of the effects of instructions on numbers.
use Rattle.std.proofs.Common.{◌≡◌, ℤ, pos, Bool, true, false, ◌&&◌, if◌then◌else◌, Option, Some, None, refl}
use Rattle.std.specs.Int.{Width, w8, w16, w32, w64, int_wrap, int_rem_euclid}
use Rattle.std.specs.Ordering.{int_eq}
use Rattle.jv_base.specs.declared.method.Kind.TheVariants.{Zero}
use Rattle.jv_base.specs.declared.value.Value.{Value}
use Rattle.jv_base.specs.declared.value.Value.TheVariants as value
use Rattle.cf_code.specs.declared.instr.Instr.TheVariants as instrs
use Rattle.cf_code.specs.declared.number.ArithOp.{ArithOp}
use Rattle.cf_code.specs.declared.number.ArithOp.TheVariants.{Add, Sub, Mul, Div, Rem, Neg}
use Rattle.cf_code.specs.declared.number.ShiftOp.{ShiftOp}
use Rattle.cf_code.specs.declared.number.BitOp.{BitOp}
use Rattle.cf_code.specs.declared.number.Num.TheVariants.{Int, Long, Float, Double}
use Rattle.cf_code.specs.declared.number.Whole.TheVariants.{WholeInt, WholeLong}
use Rattle.cf_code.specs.declared.number.Conversion.{Conversion}
use Rattle.cf_code.specs.declared.number.Conversion.TheVariants as conversions
use Rattle.cf_code.specs.declared.number.Comparison.TheVariants as comparisons
use Rattle.cf_code.specs.declared.number.Number.{Number}
use Rattle.cf_code.specs.declared.number.Number.TheVariants.{Arith, Shift, Bitwise, Convert, Compare}
use Rattle.cf_code.specs.Kinds.{number_raises}
use Rattle.vm_world.specs.declared.frame.Frame.{Frame}
use Rattle.vm_frame.specs.declared.effect.FrameEffect.TheVariants.{Gives, Raises}
use Rattle.vm_frame.specs.Operands.{top, int_in, long_in, two_ints, two_longs, long_and_int}
use Rattle.vm_frame.specs.Numbers as numbers
use Rattle.vm_frame.proofs.EffectLemmas.{Meets, meets_if}

module _ (n : Number) (frame : Frame) where
  fault_meets : (divides zero : Bool) (v : Value) → (divides ≡ true → number_raises n Zero ≡ true)
      → Meets (instrs.Number n) (if divides && zero then Raises Zero else Gives 2 v) frame
  fault_meets true true v may = may refl
  fault_meets true false v may = refl
  fault_meets false zero v may = refl

  -- an operation that divides raises zero alone
  arith_meets : (op : ArithOp) (give : ℤ → Value) (w : Width) (o : Option (ℤ × ℤ))
      → (numbers.divides op ≡ true → number_raises n Zero ≡ true)
      → Meets (instrs.Number n) (numbers.arith_given op give w o) frame
  arith_meets op give w None may = tt
  arith_meets op give w (Some (a, b)) may =
      fault_meets (numbers.divides op) (int_eq b (pos 0)) (give (numbers.arith w op a b)) may

  negation_meets : (give : ℤ → Value) (w : Width) (o : Option ℤ)
      → Meets (instrs.Number n) (numbers.negation_given give w o) frame
  negation_meets give w None = tt
  negation_meets give w (Some b) = refl

  int_shift_meets : (op : ShiftOp) (o : Option (ℤ × ℤ)) → Meets (instrs.Number n) (numbers.int_shift_given op o) frame
  int_shift_meets op None = tt
  int_shift_meets op (Some (a, d)) = refl

  long_shift_meets : (op : ShiftOp) (o : Option (ℤ × ℤ)) → Meets (instrs.Number n) (numbers.long_shift_given op o) frame
  long_shift_meets op None = tt
  long_shift_meets op (Some (a, d)) = refl

  bitwise_meets : (op : BitOp) (give : ℤ → Value) (w : Width) (o : Option (ℤ × ℤ))
      → Meets (instrs.Number n) (numbers.bitwise_given op give w o) frame
  bitwise_meets op give w None = tt
  bitwise_meets op give w (Some (a, b)) = refl

  int_meets : (f : ℤ → ℤ) (o : Option ℤ) → Meets (instrs.Number n) (numbers.gives_int f o) frame
  int_meets f None = tt
  int_meets f (Some z) = refl

  long_meets : (o : Option ℤ) → Meets (instrs.Number n) (numbers.gives_long o) frame
  long_meets None = tt
  long_meets (Some z) = refl

  compared_meets : (o : Option (ℤ × ℤ)) → Meets (instrs.Number n) (numbers.compared_given o) frame
  compared_meets None = tt
  compared_meets (Some (a, b)) = refl

int_divides : (op : ArithOp) → numbers.divides op ≡ true → number_raises (Arith op Int) Zero ≡ true
int_divides Div e = refl
int_divides Rem e = refl
int_divides Add e = absurd cc
int_divides Sub e = absurd cc
int_divides Mul e = absurd cc
int_divides Neg e = absurd cc

long_divides : (op : ArithOp) → numbers.divides op ≡ true → number_raises (Arith op Long) Zero ≡ true
long_divides Div e = refl
long_divides Rem e = refl
long_divides Add e = absurd cc
long_divides Sub e = absurd cc
long_divides Mul e = absurd cc
long_divides Neg e = absurd cc

conversion_meets : (c : Conversion) (frame : Frame)
    → Meets (instrs.Number (Convert c)) (numbers.conversion_effect c frame.stack) frame
conversion_meets conversions.IntToLong frame = long_meets (Convert conversions.IntToLong) frame
    (int_in (top frame.stack))
conversion_meets conversions.LongToInt frame =
    int_meets (Convert conversions.LongToInt) frame (int_wrap w32) (long_in (top frame.stack))
conversion_meets conversions.IntToByte frame =
    int_meets (Convert conversions.IntToByte) frame (int_wrap w8) (int_in (top frame.stack))
conversion_meets conversions.IntToChar frame =
    int_meets (Convert conversions.IntToChar) frame (λ z. int_rem_euclid z (pos 65536)) (int_in (top frame.stack))
conversion_meets conversions.IntToShort frame =
    int_meets (Convert conversions.IntToShort) frame (int_wrap w16) (int_in (top frame.stack))
conversion_meets conversions.IntToFloat frame = tt
conversion_meets conversions.IntToDouble frame = tt
conversion_meets conversions.LongToFloat frame = tt
conversion_meets conversions.LongToDouble frame = tt
conversion_meets conversions.FloatToInt frame = tt
conversion_meets conversions.FloatToLong frame = tt
conversion_meets conversions.FloatToDouble frame = tt
conversion_meets conversions.DoubleToInt frame = tt
conversion_meets conversions.DoubleToLong frame = tt
conversion_meets conversions.DoubleToFloat frame = tt

pub number_meets : (n : Number) (frame : Frame) → Meets (instrs.Number n) (numbers.number_effect n frame.stack) frame
number_meets (Arith op Int) frame =
    meets_if (numbers.negates op) (instrs.Number (Arith op Int))
    (numbers.negation_given value.Int w32 (int_in (top frame.stack)))
    (numbers.arith_given op value.Int w32 (two_ints frame.stack)) frame
    (negation_meets (Arith op Int) frame value.Int w32 (int_in (top frame.stack)))
    (arith_meets (Arith op Int) frame op value.Int w32 (two_ints frame.stack) (int_divides op))
number_meets (Arith op Long) frame =
    meets_if (numbers.negates op) (instrs.Number (Arith op Long))
    (numbers.negation_given value.Long w64 (long_in (top frame.stack)))
    (numbers.arith_given op value.Long w64 (two_longs frame.stack)) frame
    (negation_meets (Arith op Long) frame value.Long w64 (long_in (top frame.stack)))
    (arith_meets (Arith op Long) frame op value.Long w64 (two_longs frame.stack) (long_divides op))
number_meets (Arith op Float) frame = tt
number_meets (Arith op Double) frame = tt
number_meets (Shift op WholeInt) frame = int_shift_meets (Shift op WholeInt) frame op (two_ints frame.stack)
number_meets (Shift op WholeLong) frame = long_shift_meets (Shift op WholeLong) frame op (long_and_int frame.stack)
number_meets (Bitwise op WholeInt) frame =
    bitwise_meets (Bitwise op WholeInt) frame op value.Int w32 (two_ints frame.stack)
number_meets (Bitwise op WholeLong) frame =
    bitwise_meets (Bitwise op WholeLong) frame op value.Long w64 (two_longs frame.stack)
number_meets (Convert c) frame = conversion_meets c frame
number_meets (Compare comparisons.CompareLong) frame =
    compared_meets (Compare comparisons.CompareLong) frame (two_longs frame.stack)
number_meets (Compare comparisons.CompareFloatLess) frame = tt
number_meets (Compare comparisons.CompareFloatGreater) frame = tt
number_meets (Compare comparisons.CompareDoubleLess) frame = tt
number_meets (Compare comparisons.CompareDoubleGreater) frame = tt
