-- The bits of numbers, and the patterns of signed numbers.
use Rattle.std.proofs.Common.{◌≡◌, ◌≢◌, ◌<◌, ◌/◌, ◌^◌, ◌↔◌, ◌==◌, ℕ, ℤ, max, Bool, true, false, refl, sym, ap, ◌∙◌}
use Rattle.std.proofs.Common.{arith, Fits}
use Rattle.std.specs.Prelude.{IsTrue, FitsSigned, bit_and, bit_or, if◌then◌else◌}
use Rattle.std.specs.Int.{w16, w32, IsBitSet, cast_unsigned}
use Rattle.std.specs.Int as int
use Rattle.std.proofs.Math.Facts.{Fits-of_z}
use Rattle.std.proofs.lemmas.Bool.{eqb-true, eq-eqb}
use Rattle.std.proofs.lemmas.Nat.{bit_set_by_shift}
use Rattle.std.proofs.lemmas.Nat.Bits.{bit_at_or, bit_at-pow_same, bit_at-pow_other, shr_and_one, bit_at-lt}

-- a bit that is set where there was none
pub set_same : (n i : ℕ) → int.bit_at n i ≡ 0 → int.bit_at (bit_or n (2 ^ i)) i ≡ 1
set_same n i none =
    bit_at_or n (2 ^ i) i ∙ ap (λ (z : ℕ). max z (int.bit_at (2 ^ i) i)) none
    ∙ ap (λ (z : ℕ). max 0 z) (bit_at-pow_same i)

-- leaves the others
pub set_other : (n i k : ℕ) → k ≢ i → int.bit_at (bit_or n (2 ^ i)) k ≡ int.bit_at n k
set_other n i k ne =
    bit_at_or n (2 ^ i) k ∙ ap (λ (z : ℕ). max (int.bit_at n k) z) (bit_at-pow_other i k ne) ∙ omega arith

-- a shift and a mask test a bit
pub tests_bit : (n k : ℕ) → IsTrue (bit_and (n / 2 ^ k) 1 == 1) ↔ IsBitSet n k
tests_bit n k =
    let shift = bit_set_by_shift n k in
    ((λ h. shift.0 (eqb-true (bit_and (n / 2 ^ k) 1) 1 h)), (λ h. eq-eqb (bit_and (n / 2 ^ k) 1) 1 (shift.1 h)))

-- a bit that a test tells
pub bit_is : (t : Bool) (n k : ℕ) → (IsTrue t ↔ IsBitSet n k) → int.bit_at n k ≡ (if t then 1 else 0)
bit_is true n k h = sym (shr_and_one n k) ∙ (bit_set_by_shift n k).1 (h.0 refl)
bit_is false n k h =
    let below = bit_at-lt n k in
    let unset : int.bit_at n k ≡ 1 → ⊥ =
    λ e. let wrong : false ≡ true = h.1 ((bit_set_by_shift n k).0 (shr_and_one n k ∙ e)) in cc in
    omega (arith, below, unset)

-- the pattern of a signed number of two bytes
pub pattern_below_16 : (z : ℤ) → FitsSigned w16 z → cast_unsigned w16 z < 2 ^ 16
pattern_below_16 z fits = let h : Fits w16 (cast_unsigned w16 z) = Fits-of_z fits in omega (arith, h)

-- and of four bytes
pub pattern_below_32 : (z : ℤ) → FitsSigned w32 z → cast_unsigned w32 z < 2 ^ 32
pattern_below_32 z fits = let h : Fits w32 (cast_unsigned w32 z) = Fits-of_z fits in omega (arith, h)
