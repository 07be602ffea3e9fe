-- Values that `==` finds equal are the same: what two or three parts tell, and the instructions on numbers.
use Rattle.std.proofs.Common.{◌≡◌, ℕ, ℤ, Bool, true, ◌&&◌, ◌∙◌, ap, refl}
use Rattle.std.specs.Prelude.{nat_eq}
use Rattle.std.specs.Ordering.{int_eq}
use Rattle.std.proofs.lemmas.Bool.{false≢true, and_parts}
use Rattle.std.proofs.lemmas.Bool.Decides.{Decides-eqb, Decides-int_eq}
use Rattle.cf_code.specs.declared.number.Num.{Num}
use Rattle.cf_code.specs.declared.number.Num.TheVariants as num
use Rattle.cf_code.specs.contracts.number.NumPartialEq.TheImpl as num_eq
use Rattle.cf_code.specs.declared.number.Whole.{Whole}
use Rattle.cf_code.specs.declared.number.Whole.TheVariants as whole
use Rattle.cf_code.specs.contracts.number.WholePartialEq.TheImpl as whole_eq
use Rattle.cf_code.specs.declared.number.ArithOp.{ArithOp}
use Rattle.cf_code.specs.declared.number.ArithOp.TheVariants as arith_op
use Rattle.cf_code.specs.contracts.number.ArithOpPartialEq.TheImpl as arith_op_eq
use Rattle.cf_code.specs.declared.number.ShiftOp.{ShiftOp}
use Rattle.cf_code.specs.declared.number.ShiftOp.TheVariants as shift_op
use Rattle.cf_code.specs.contracts.number.ShiftOpPartialEq.TheImpl as shift_op_eq
use Rattle.cf_code.specs.declared.number.BitOp.{BitOp}
use Rattle.cf_code.specs.declared.number.BitOp.TheVariants as bit_op
use Rattle.cf_code.specs.contracts.number.BitOpPartialEq.TheImpl as bit_op_eq
use Rattle.cf_code.specs.declared.number.Conversion.{Conversion}
use Rattle.cf_code.specs.declared.number.Conversion.TheVariants as conversion
use Rattle.cf_code.specs.contracts.number.ConversionPartialEq.TheImpl as conversion_eq
use Rattle.cf_code.specs.declared.number.Comparison.{Comparison}
use Rattle.cf_code.specs.declared.number.Comparison.TheVariants as comparison
use Rattle.cf_code.specs.contracts.number.ComparisonPartialEq.TheImpl as comparison_eq
use Rattle.cf_code.specs.declared.number.Number.{Number}
use Rattle.cf_code.specs.declared.number.Number.TheVariants as number
use Rattle.cf_code.specs.contracts.number.NumberPartialEq.TheImpl as number_eq

-- what a test finds equal is the same
abbrev pub Same : (K : Type 0) → (K → K → Bool) → Type 0
Same K test = (x y : K) → test x y ≡ true → x ≡ y

pub same_numbers : Same ℕ nat_eq
same_numbers x y e = (Decides-eqb x y).0 e

pub same_ints : Same ℤ int_eq
same_ints x y e = (Decides-int_eq x y).0 e

module _ {A B K : Type 0} {E : A → A → Bool} {F : B → B → Bool} (f : A → B → K) (a : Same A E) (b : Same B F) where
  -- of two parts
  pub same_two : (x y : A) (p q : B) → (E x y && F p q) ≡ true → f x p ≡ f y q
  same_two x y p q e =
      let both = and_parts (E x y) (F p q) e in
      ap (λ (z : A). f z p) (a x y both.0) ∙ ap (λ (r : B). f y r) (b p q both.1)

module _ {A B C K : Type 0} {E : A → A → Bool} {F : B → B → Bool} {G : C → C → Bool} (f : A → B → C → K) (a : Same A E)
    (b : Same B F) (c : Same C G) where
  -- of three parts
  pub same_three : (x y : A) (p q : B) (u v : C) → (E x y && (F p q && G u v)) ≡ true → f x p u ≡ f y q v
  same_three x y p q u v e =
      let both = and_parts (E x y) (F p q && G u v) e in
      ap (λ (z : A). f z p u) (a x y both.0) ∙ same_two (f y) b c p q u v both.1

-- ---- the instructions on numbers

pub same_num : Same Num (num_eq.ghosts).eq
same_num num.Int num.Int e = refl
same_num num.Long num.Long e = refl
same_num num.Float num.Float e = refl
same_num num.Double num.Double e = refl
same_num x y e = absurd (false≢true e)

pub same_whole : Same Whole (whole_eq.ghosts).eq
same_whole whole.WholeInt whole.WholeInt e = refl
same_whole whole.WholeLong whole.WholeLong e = refl
same_whole x y e = absurd (false≢true e)

pub same_arith_op : Same ArithOp (arith_op_eq.ghosts).eq
same_arith_op arith_op.Add arith_op.Add e = refl
same_arith_op arith_op.Sub arith_op.Sub e = refl
same_arith_op arith_op.Mul arith_op.Mul e = refl
same_arith_op arith_op.Div arith_op.Div e = refl
same_arith_op arith_op.Rem arith_op.Rem e = refl
same_arith_op arith_op.Neg arith_op.Neg e = refl
same_arith_op x y e = absurd (false≢true e)

pub same_shift_op : Same ShiftOp (shift_op_eq.ghosts).eq
same_shift_op shift_op.Left shift_op.Left e = refl
same_shift_op shift_op.Right shift_op.Right e = refl
same_shift_op shift_op.RightUnsigned shift_op.RightUnsigned e = refl
same_shift_op x y e = absurd (false≢true e)

pub same_bit_op : Same BitOp (bit_op_eq.ghosts).eq
same_bit_op bit_op.And bit_op.And e = refl
same_bit_op bit_op.Or bit_op.Or e = refl
same_bit_op bit_op.Xor bit_op.Xor e = refl
same_bit_op x y e = absurd (false≢true e)

pub same_conversion : Same Conversion (conversion_eq.ghosts).eq
same_conversion conversion.IntToLong conversion.IntToLong e = refl
same_conversion conversion.IntToFloat conversion.IntToFloat e = refl
same_conversion conversion.IntToDouble conversion.IntToDouble e = refl
same_conversion conversion.LongToInt conversion.LongToInt e = refl
same_conversion conversion.LongToFloat conversion.LongToFloat e = refl
same_conversion conversion.LongToDouble conversion.LongToDouble e = refl
same_conversion conversion.FloatToInt conversion.FloatToInt e = refl
same_conversion conversion.FloatToLong conversion.FloatToLong e = refl
same_conversion conversion.FloatToDouble conversion.FloatToDouble e = refl
same_conversion conversion.DoubleToInt conversion.DoubleToInt e = refl
same_conversion conversion.DoubleToLong conversion.DoubleToLong e = refl
same_conversion conversion.DoubleToFloat conversion.DoubleToFloat e = refl
same_conversion conversion.IntToByte conversion.IntToByte e = refl
same_conversion conversion.IntToChar conversion.IntToChar e = refl
same_conversion conversion.IntToShort conversion.IntToShort e = refl
same_conversion x y e = absurd (false≢true e)

pub same_comparison : Same Comparison (comparison_eq.ghosts).eq
same_comparison comparison.CompareLong comparison.CompareLong e = refl
same_comparison comparison.CompareFloatLess comparison.CompareFloatLess e = refl
same_comparison comparison.CompareFloatGreater comparison.CompareFloatGreater e = refl
same_comparison comparison.CompareDoubleLess comparison.CompareDoubleLess e = refl
same_comparison comparison.CompareDoubleGreater comparison.CompareDoubleGreater e = refl
same_comparison x y e = absurd (false≢true e)

pub same_number : Same Number (number_eq.ghosts).eq
same_number (number.Arith x p) (number.Arith y q) e = same_two number.Arith same_arith_op same_num x y p q e
same_number (number.Shift x p) (number.Shift y q) e = same_two number.Shift same_shift_op same_whole x y p q e
same_number (number.Bitwise x p) (number.Bitwise y q) e = same_two number.Bitwise same_bit_op same_whole x y p q e
same_number (number.Convert x) (number.Convert y) e = ap number.Convert (same_conversion x y e)
same_number (number.Compare x) (number.Compare y) e = ap number.Compare (same_comparison x y e)
same_number x y e = absurd (false≢true e)
