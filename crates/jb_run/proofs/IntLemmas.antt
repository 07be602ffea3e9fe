-- The bits of an int determine it.
use Rattle.std.proofs.Common.{◌≡◌, ℕ, ℤ, Bool, sym, ap, ◌∙◌}
use Rattle.std.specs.Prelude.{FitsSigned, if◌then◌else◌}
use Rattle.std.specs.Int.{cast_unsigned, cast_signed, w32}
use Rattle.std.proofs.lemmas.Int.{to_z-of_z}
use Rattle.std.proofs.lemmas.Nat.Bits.{same_from_bits_below}
use Rattle.jb_run.specs.declared.int_bits.IntBits.{IntBits}
use Rattle.jb_run.specs.Gate.{HasInt, HaveSameBits, bit_of}
use Rattle.jv_list.proofs.BitLemmas.{bit_is, pattern_below_32}
use Rattle.std.proofs.lemmas.Bool.Decides.{same_from_decides}

-- ints with the same bits are equal
pub ints_from_bits : (a : ℕ → Bool) (first second : IntBits) (n m : ℤ) → FitsSigned w32 n → FitsSigned w32 m
    → HasInt a first n → HasInt a second m → HaveSameBits first second a → n ≡ m
ints_from_bits a first second n m fits_n fits_m here there same =
    let p = cast_unsigned w32 n in
    let q = cast_unsigned w32 m in
    let e : p ≡ q = same_from_bits_below 32 p q (pattern_below_32 n fits_n) (pattern_below_32 m fits_m)
    (λ k inside. bit_is (bit_of a first k) p k (here k inside)
    ∙ ap (λ (t : Bool). if t then 1 else 0) (same k inside) ∙ sym (bit_is (bit_of a second k) q k (there k inside)))
    in
    sym (to_z-of_z w32 n fits_n) ∙ ap (cast_signed w32) e ∙ to_z-of_z w32 m fits_m

-- equal ints have the same bits
pub bits_from_int : (a : ℕ → Bool) (first second : IntBits) (n : ℤ) → HasInt a first n → HasInt a second n
    → HaveSameBits first second a
bits_from_int a first second n here there k inside =
    same_from_decides (bit_of a first k) (bit_of a second k) (here k inside)
    (there k inside)
