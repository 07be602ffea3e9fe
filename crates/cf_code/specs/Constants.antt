-- The bytes of the instructions that push a constant (JVM Specification SE 8, 6.5).
use Rattle.std.specs.Prelude.{◌+◌, ◌≤◌, ℕ, pos, negsuc, ◌≤ℤ◌, ◌+ℤ◌, List, [], ◌∷◌}
use Rattle.std.specs.Int.{w8, w16, cast_unsigned}
use Rattle.std.specs.Int.RustNames.{FitsSigned}
use Rattle.cf_code.specs.Bytes.{two, signed_two, IsByte, IsTwo}
use Rattle.cf_code.specs.declared.constant.Constant.{Constant}
use Rattle.cf_code.specs.declared.constant.Constant.TheVariants.{Null, Iconst, Lconst, Fconst, Dconst, Bipush, Sipush, Ldc, LdcW, Ldc2W}

-- aconst_null, iconst_<i>, lconst_<l>, fconst_<f>, dconst_<d>, bipush, sipush, ldc, ldc_w, ldc2_w
abbrev pub constant_spelling : Constant → List ℕ
constant_spelling Null = 1 ∷ []
constant_spelling (Iconst z) = cast_unsigned w8 (z +ℤ pos 3) ∷ []
constant_spelling (Lconst n) = (9 + n) ∷ []
constant_spelling (Fconst n) = (11 + n) ∷ []
constant_spelling (Dconst n) = (14 + n) ∷ []
constant_spelling (Bipush z) = 16 ∷ cast_unsigned w8 z ∷ []
constant_spelling (Sipush z) = 17 ∷ signed_two z
constant_spelling (Ldc n) = 18 ∷ n ∷ []
constant_spelling (LdcW n) = 19 ∷ two n
constant_spelling (Ldc2W n) = 20 ∷ two n

-- what has a spelling
abbrev pub FitsConstant : Constant → Type 0
FitsConstant Null = Unit {0}
FitsConstant (Iconst z) = (negsuc 0 ≤ℤ z) × (z ≤ℤ pos 5)
FitsConstant (Lconst n) = n ≤ 1
FitsConstant (Fconst n) = n ≤ 2
FitsConstant (Dconst n) = n ≤ 1
FitsConstant (Bipush z) = FitsSigned w8 z
FitsConstant (Sipush z) = FitsSigned w16 z
FitsConstant (Ldc n) = IsByte n
FitsConstant (LdcW n) = IsTwo n
FitsConstant (Ldc2W n) = IsTwo n
