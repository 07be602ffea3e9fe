-- Integers that are wrapped to the bits of a type.
use Rattle.std.proofs.Common.{◌≡◌, ℕ, suc, zero, ◌/◌, ◌%◌, ◌^◌, ◌<◌, ◌≤◌, ℤ, pos, negsuc, ◌+ℤ◌, ◌*ℤ◌, neg_ℤ}
use Rattle.std.proofs.Common.{refl, sym, ap, ◌∙◌, arith, FitsSigned, Fits, unsigned_abs, int_div}
use Rattle.std.specs.Int.{Width, w32, w64, int_wrap, int_rem_euclid, cast_signed}
use Rattle.std.specs.Int.{cast_unsigned, int_shl, int_wrapping_add}
use mir.Val.{bits}
use Rattle.std.proofs.Math.Nat.{mod-eq_of_lt, div-le_self}
use Rattle.std.proofs.Math.Pow.{pow-lt}
use Rattle.std.proofs.Math.Facts.{Fits-of_z}
use Rattle.std.proofs.lemmas.Int.{int_wrap-mul_right, wrapping_mul-bits, wrapping_add_is, to_z-of_z}

-- a number of no more bits than the type has, though it may be too large for its sign
pub wrap_few : (w : Width) (z : ℤ) → unsigned_abs z < 2 ^ bits w → cast_signed w (cast_unsigned w z) ≡ int_wrap w z
unfolding int_wrap
wrap_few w (pos n) few = ap (cast_signed w) (sym (mod-eq_of_lt few))
wrap_few w (negsuc n) few =
    let below : n < 2 ^ bits w = omega (arith, few) in
    let same : n % 2 ^ bits w ≡ n = mod-eq_of_lt below in
    ap (cast_signed w) (omega (arith, same))

abs_neg : (n : ℕ) → unsigned_abs (neg_ℤ (pos n)) ≡ n
abs_neg zero = refl
abs_neg (suc n) = refl

-- a quotient is no larger than what is divided
pub quotient_less : (a b : ℤ) → unsigned_abs (int_div a b) ≤ unsigned_abs a
quotient_less (pos a) (pos b) = div-le_self a b
quotient_less (pos a) (negsuc b) = omega (arith, div-le_self a (suc b), abs_neg (a / suc b))
quotient_less (negsuc a) (pos b) = omega (arith, div-le_self (suc a) b, abs_neg (suc a / b))
quotient_less (negsuc a) (negsuc b) = div-le_self (suc a) (suc b)

abs_fits_32 : (z : ℤ) → FitsSigned w32 z → unsigned_abs z < 2 ^ 32
abs_fits_32 (pos n) fits = omega (arith, fits.sfits)
abs_fits_32 (negsuc n) fits = omega (arith, fits.sfits)

abs_fits_64 : (z : ℤ) → FitsSigned w64 z → unsigned_abs z < 2 ^ 64
abs_fits_64 (pos n) fits = omega (arith, fits.sfits)
abs_fits_64 (negsuc n) fits = omega (arith, fits.sfits)

-- a quotient of ints or longs
pub wraps_quotient_32 : (a b : ℤ) → FitsSigned w32 a
    → cast_signed w32 (cast_unsigned w32 (int_div a b)) ≡ int_wrap w32 (int_div a b)
wraps_quotient_32 a b fits = wrap_few w32 (int_div a b) (omega (arith, quotient_less a b, abs_fits_32 a fits))

pub wraps_quotient_64 : (a b : ℤ) → FitsSigned w64 a
    → cast_signed w64 (cast_unsigned w64 (int_div a b)) ≡ int_wrap w64 (int_div a b)
wraps_quotient_64 a b fits = wrap_few w64 (int_div a b) (omega (arith, quotient_less a b, abs_fits_64 a fits))

-- a shift to the left is a product with a power of two
pub shift_is_product : (w : Width) (a : ℤ) (s : ℕ) → FitsSigned w a → cast_unsigned w a < 2 ^ bits w
    → 2 ^ s < 2 ^ bits w → int_shl w a s ≡ int_wrap w (a *ℤ pos (2 ^ s))
shift_is_product w a s fits low few =
    wrapping_mul-bits w (cast_unsigned w a) (2 ^ s) low few
    ∙ ap (λ (z : ℤ). int_wrap w (z *ℤ cast_signed w (2 ^ s))) (to_z-of_z w a fits)
    ∙ ap (λ (z : ℤ). int_wrap w (a *ℤ z)) (wrap_few w (pos (2 ^ s)) few)
    ∙ int_wrap-mul_right w a (pos (2 ^ s))

pub shifted_left_32 : (a : ℤ) (s : ℕ) → FitsSigned w32 a → s < 32
    → int_shl w32 a s ≡ int_wrap w32 (a *ℤ pos (2 ^ s))
shifted_left_32 a s fits lt =
    let low : Fits w32 (cast_unsigned w32 a) = Fits-of_z fits in
    shift_is_product w32 a s fits (omega (arith, low)) (pow-lt lt)

pub shifted_left_64 : (a : ℤ) (s : ℕ) → FitsSigned w64 a → s < 64
    → int_shl w64 a s ≡ int_wrap w64 (a *ℤ pos (2 ^ s))
shifted_left_64 a s fits lt =
    let low : Fits w64 (cast_unsigned w64 a) = Fits-of_z fits in
    shift_is_product w64 a s fits (omega (arith, low)) (pow-lt lt)

-- the lower bits of a number, as a signed one
pub wrapped_by : (v w : Width) (number low given : ℤ) → FitsSigned v number → FitsSigned v low
    → low ≡ int_rem_euclid (cast_signed v (cast_unsigned v number)) (pos (2 ^ bits w))
    → given ≡ cast_signed w (unsigned_abs (cast_signed v (cast_unsigned v low)))
    → given ≡ int_wrap w number
unfolding int_wrap
wrapped_by v w number low given number_fits low_fits is gives =
    gives ∙ ap (λ (z : ℤ). cast_signed w (unsigned_abs z)) (to_z-of_z v low low_fits ∙ is)
    ∙ ap (λ (z : ℤ). cast_signed w (unsigned_abs (int_rem_euclid z (pos (2 ^ bits w)))))
    (to_z-of_z v number number_fits)

pub passed_on : (v w : Width) (given passed z : ℤ) → FitsSigned v passed → FitsSigned w given
    → passed ≡ cast_signed w (cast_unsigned w given) → given ≡ z → cast_signed v (cast_unsigned v passed) ≡ z
passed_on v w given passed z passed_fits given_fits is gives =
    to_z-of_z v passed passed_fits ∙ is ∙ to_z-of_z w given given_fits ∙ gives

-- a sum whose second number came from a smaller type
pub wraps_sum : (v : Width) (a b passed : ℤ) → FitsSigned w32 a → FitsSigned v b → FitsSigned w32 passed
    → passed ≡ cast_signed v (cast_unsigned v b) → int_wrapping_add w32 a passed ≡ int_wrap w32 (a +ℤ b)
wraps_sum v a b passed a_fits b_fits passed_fits is =
    wrapping_add_is w32 a passed a_fits passed_fits
    ∙ ap (λ (z : ℤ). int_wrap w32 (a +ℤ z)) (is ∙ to_z-of_z v b b_fits)
