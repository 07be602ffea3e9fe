-- The instructions on numbers: read back from their opcodes, which stand alone.
use Rattle.std.proofs.Common.{ℕ, refl}
use Rattle.cf_code.specs.Numbers.{arith_opcode, shift_opcode, bit_opcode, conversion_opcode, comparison_opcode}
use Rattle.cf_code.specs.Numbers.{number_opcode}
use Rattle.cf_code.specs.declared.number.Num.{Num}
use Rattle.cf_code.specs.declared.number.Num.TheVariants.{Int}
use Rattle.cf_code.specs.declared.number.Whole.{Whole}
use Rattle.cf_code.specs.declared.number.Whole.TheVariants.{WholeInt}
use Rattle.cf_code.specs.declared.number.ArithOp.{ArithOp}
use Rattle.cf_code.specs.declared.number.ArithOp.TheVariants.{Add, Sub, Mul, Div, Rem, Neg}
use Rattle.cf_code.specs.declared.number.ShiftOp.{ShiftOp}
use Rattle.cf_code.specs.declared.number.ShiftOp.TheVariants.{Left, Right, RightUnsigned}
use Rattle.cf_code.specs.declared.number.BitOp.{BitOp}
use Rattle.cf_code.specs.declared.number.BitOp.TheVariants.{And, Or, Xor}
use Rattle.cf_code.specs.declared.number.Conversion.{Conversion}
use Rattle.cf_code.specs.declared.number.Conversion.TheVariants.{IntToLong}
use Rattle.cf_code.specs.declared.number.Comparison.{Comparison}
use Rattle.cf_code.specs.declared.number.Comparison.TheVariants.{CompareLong}
use Rattle.cf_code.specs.declared.number.Number.{Number as TheNumber}
use Rattle.cf_code.specs.declared.number.Number.TheVariants.{Arith, Shift, Bitwise, Convert, Compare}
use Rattle.cf_code.specs.declared.instr.Instr.TheVariants.{Number}
use Rattle.cf_code.proofs.OpcodeLemmas.{IsAlone}

-- an instruction on numbers at its opcode
abbrev IsNumber : ℕ → TheNumber → Type 0
IsNumber opcode n = IsAlone opcode (Number n)

arith_alone : (op : ArithOp) (on : Num) → IsNumber (arith_opcode op on) (Arith op on)
arith_alone Add Int = (λ pc. refl, (refl, refl))
arith_alone Add on = (λ pc. refl, (refl, refl))
arith_alone Sub Int = (λ pc. refl, (refl, refl))
arith_alone Sub on = (λ pc. refl, (refl, refl))
arith_alone Mul Int = (λ pc. refl, (refl, refl))
arith_alone Mul on = (λ pc. refl, (refl, refl))
arith_alone Div Int = (λ pc. refl, (refl, refl))
arith_alone Div on = (λ pc. refl, (refl, refl))
arith_alone Rem Int = (λ pc. refl, (refl, refl))
arith_alone Rem on = (λ pc. refl, (refl, refl))
arith_alone Neg Int = (λ pc. refl, (refl, refl))
arith_alone Neg on = (λ pc. refl, (refl, refl))

shift_alone : (op : ShiftOp) (on : Whole) → IsNumber (shift_opcode op on) (Shift op on)
shift_alone Left WholeInt = (λ pc. refl, (refl, refl))
shift_alone Left on = (λ pc. refl, (refl, refl))
shift_alone Right WholeInt = (λ pc. refl, (refl, refl))
shift_alone Right on = (λ pc. refl, (refl, refl))
shift_alone RightUnsigned WholeInt = (λ pc. refl, (refl, refl))
shift_alone RightUnsigned on = (λ pc. refl, (refl, refl))

bit_alone : (op : BitOp) (on : Whole) → IsNumber (bit_opcode op on) (Bitwise op on)
bit_alone And WholeInt = (λ pc. refl, (refl, refl))
bit_alone And on = (λ pc. refl, (refl, refl))
bit_alone Or WholeInt = (λ pc. refl, (refl, refl))
bit_alone Or on = (λ pc. refl, (refl, refl))
bit_alone Xor WholeInt = (λ pc. refl, (refl, refl))
bit_alone Xor on = (λ pc. refl, (refl, refl))

conversion_alone : (of : Conversion) → IsNumber (conversion_opcode of) (Convert of)
conversion_alone IntToLong = (λ pc. refl, (refl, refl))
conversion_alone of = (λ pc. refl, (refl, refl))

comparison_alone : (of : Comparison) → IsNumber (comparison_opcode of) (Compare of)
comparison_alone CompareLong = (λ pc. refl, (refl, refl))
comparison_alone of = (λ pc. refl, (refl, refl))

pub number_alone : (of : TheNumber) → IsNumber (number_opcode of) of
number_alone (Arith op on) = arith_alone op on
number_alone (Shift op on) = shift_alone op on
number_alone (Bitwise op on) = bit_alone op on
number_alone (Convert c) = conversion_alone c
number_alone (Compare c) = comparison_alone c
