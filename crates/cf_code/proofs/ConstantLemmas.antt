-- The instructions that push a constant: read back from their bytes, and as long as their opcodes tell.
use Rattle.std.proofs.Common.{◌≡◌, ◌+◌, ◌≤◌, ℕ, ℤ, pos, negsuc, zero, suc, ◌+ℤ◌, List, [], ◌∷◌, ◌++◌, length, ap, refl}
use Rattle.std.proofs.Common.{arith}
use Rattle.std.specs.Prelude.{◌≤ℤ◌}
use Rattle.std.specs.Int.{w8, cast_unsigned}
use Rattle.std.proofs.lemmas.Bool.Decides.{nat_tests}
use Rattle.std.proofs.lemmas.Int.{to_z-of_z, ints}
use Rattle.cf_code.specs.Bytes.{two, signed_two}
use Rattle.cf_code.specs.Constants.{constant_spelling, FitsConstant}
use Rattle.cf_code.specs.Sizes.{HasSize}
use Rattle.cf_code.specs.declared.constant.Constant.{Constant as TheConstant}
use Rattle.cf_code.specs.declared.constant.Constant.TheVariants.{Null, Iconst, Lconst, Fconst, Dconst, Bipush, Sipush}
use Rattle.cf_code.specs.declared.constant.Constant.TheVariants.{Ldc, LdcW, Ldc2W}
use Rattle.cf_code.specs.declared.instr.Instr.TheVariants.{Constant}
use Rattle.cf_code.proofs.ByteLemmas.{signed_two_back}
use Rattle.cf_code.proofs.OpcodeLemmas.{Tells, fixed_sized, pair_back, read}

iconst_back : (pc : ℕ) (z : ℤ) → FitsConstant (Iconst z) → read pc (constant_spelling (Iconst z)) ≡ Constant (Iconst z)
iconst_back pc (pos zero) a = refl
iconst_back pc (pos (suc zero)) a = refl
iconst_back pc (pos (suc (suc zero))) a = refl
iconst_back pc (pos (suc (suc (suc zero)))) a = refl
iconst_back pc (pos (suc (suc (suc (suc zero))))) a = refl
iconst_back pc (pos (suc (suc (suc (suc (suc zero)))))) a = refl
iconst_back pc (pos (suc (suc (suc (suc (suc (suc n))))))) a = absurd (omega (arith, ints))
iconst_back pc (negsuc zero) a = refl
iconst_back pc (negsuc (suc n)) a = absurd (omega (arith, ints))

pub constant_back : (pc : ℕ) (c : TheConstant) → FitsConstant c → read pc (constant_spelling c) ≡ Constant c
constant_back pc Null a = refl
constant_back pc (Iconst z) a = iconst_back pc z a
constant_back pc (Lconst zero) a = refl
constant_back pc (Lconst (suc zero)) a = refl
constant_back pc (Lconst (suc (suc n))) a = absurd (omega arith)
constant_back pc (Fconst zero) a = refl
constant_back pc (Fconst (suc zero)) a = refl
constant_back pc (Fconst (suc (suc zero))) a = refl
constant_back pc (Fconst (suc (suc (suc n)))) a = absurd (omega arith)
constant_back pc (Dconst zero) a = refl
constant_back pc (Dconst (suc zero)) a = refl
constant_back pc (Dconst (suc (suc n))) a = absurd (omega arith)
constant_back pc (Bipush z) a = ap (λ (y : ℤ). Constant (Bipush y)) (to_z-of_z w8 z a)
constant_back pc (Sipush z) a = ap (λ (y : ℤ). Constant (Sipush y)) (signed_two_back z a)
constant_back pc (Ldc n) a = refl
constant_back pc (LdcW n) a = pair_back (λ m. Constant (LdcW m)) pc n a
constant_back pc (Ldc2W n) a = pair_back (λ m. Constant (Ldc2W m)) pc n a

-- aconst_null to dconst_1
low_tells : (opcode : ℕ) → opcode ≤ 15 → Tells opcode 1
low_tells opcode h = (grind (arith, nat_tests), grind (arith, nat_tests))

-- iconst_m1 to iconst_5
iconst_low : (z : ℤ) → negsuc 0 ≤ℤ z → z ≤ℤ pos 5 → cast_unsigned w8 (z +ℤ pos 3) ≤ 15
iconst_low z a b = omega (arith, ints)

module _ (pc : ℕ) (rest : List ℕ) where
  pub constant_sized : (of : TheConstant) → FitsConstant of
      → HasSize pc (constant_spelling of ++ rest) (length (constant_spelling of))
  constant_sized Null fits = fixed_sized pc 1 [] rest (refl, refl)
  constant_sized (Iconst z) fits = fixed_sized pc _ [] rest (low_tells _ (iconst_low z fits.0 fits.1))
  constant_sized (Lconst n) fits = fixed_sized pc (9 + n) [] rest (low_tells (9 + n) (omega arith))
  constant_sized (Fconst n) fits = fixed_sized pc (11 + n) [] rest (low_tells (11 + n) (omega arith))
  constant_sized (Dconst n) fits = fixed_sized pc (14 + n) [] rest (low_tells (14 + n) (omega arith))
  constant_sized (Bipush z) fits = fixed_sized pc 16 (cast_unsigned w8 z ∷ []) rest (refl, refl)
  constant_sized (Sipush z) fits = fixed_sized pc 17 (signed_two z) rest (refl, refl)
  constant_sized (Ldc n) fits = fixed_sized pc 18 (n ∷ []) rest (refl, refl)
  constant_sized (LdcW n) fits = fixed_sized pc 19 (two n) rest (refl, refl)
  constant_sized (Ldc2W n) fits = fixed_sized pc 20 (two n) rest (refl, refl)
