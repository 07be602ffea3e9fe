-- The instructions on arrays: read back from their bytes, and as long as their opcodes tell.
use Rattle.std.proofs.Common.{◌≡◌, ℕ, List, [], ◌∷◌, ◌++◌, length, refl}
use Rattle.cf_code.specs.Bytes.{two}
use Rattle.cf_code.specs.Arrays.{array_load_opcode, array_store_opcode, array_spelling, FitsArray}
use Rattle.cf_code.specs.Sizes.{HasSize}
use Rattle.cf_code.specs.declared.array.Element.{Element}
use Rattle.cf_code.specs.declared.array.Element.TheVariants.{Int}
use Rattle.cf_code.specs.declared.array.Array.{Array as TheArray}
use Rattle.cf_code.specs.declared.array.Array.TheVariants.{Load, Store, New, NewOf, NewMany, Length}
use Rattle.cf_code.specs.declared.instr.Instr.TheVariants.{Array}
use Rattle.cf_code.proofs.OpcodeLemmas.{Tells, fixed_sized, pair_back, read}

pub array_back : (pc : ℕ) (a : TheArray) → FitsArray a → read pc (array_spelling a) ≡ Array a
array_back pc (Load Int) fits = refl
array_back pc (Load e) fits = refl
array_back pc (Store Int) fits = refl
array_back pc (Store e) fits = refl
array_back pc (New n) fits = refl
array_back pc (NewOf n) fits = pair_back (λ m. Array (NewOf m)) pc n fits
array_back pc (NewMany n d) fits = pair_back (λ m. Array (NewMany m d)) pc n fits.0
array_back pc Length fits = refl

load_tells : (of : Element) → Tells (array_load_opcode of) 1
load_tells Int = (refl, refl)
load_tells of = (refl, refl)

store_tells : (of : Element) → Tells (array_store_opcode of) 1
store_tells Int = (refl, refl)
store_tells of = (refl, refl)

module _ (pc : ℕ) (rest : List ℕ) where
  pub array_sized : (of : TheArray) → HasSize pc (array_spelling of ++ rest) (length (array_spelling of))
  array_sized (Load e) = fixed_sized pc (array_load_opcode e) [] rest (load_tells e)
  array_sized (Store e) = fixed_sized pc (array_store_opcode e) [] rest (store_tells e)
  array_sized (New code) = fixed_sized pc 188 (code ∷ []) rest (refl, refl)
  array_sized (NewOf n) = fixed_sized pc 189 (two n) rest (refl, refl)
  array_sized (NewMany n dimensions) = fixed_sized pc 197 (two n ++ dimensions ∷ []) rest (refl, refl)
  array_sized Length = fixed_sized pc 190 [] rest (refl, refl)
