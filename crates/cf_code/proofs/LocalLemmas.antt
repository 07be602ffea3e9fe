-- The instructions on local variables: read back from their bytes, and as long as their opcodes tell.
use Rattle.std.proofs.Common.{◌≡◌, ◌+◌, ◌≤◌, ℕ, ℤ, zero, suc, List, [], ◌∷◌, ◌++◌, Some, length, to_z, ap, refl, ◌∙◌}
use Rattle.std.proofs.Common.{arith}
use Rattle.std.specs.Int.{w8, w16, cast_unsigned, from_be_bytes}
use Rattle.std.proofs.lemmas.Bool.Decides.{nat_tests}
use Rattle.std.proofs.lemmas.Int.{to_z-of_z}
use Rattle.cf_code.specs.Bytes.{two, signed_two}
use Rattle.cf_code.specs.Locals.{load_opcode, load_first, store_opcode, store_first, access_spelling, local_spelling}
use Rattle.cf_code.specs.Locals.{load_spelling, store_spelling}
use Rattle.cf_code.specs.Locals.{FitsIndex, FitsLocal}
use Rattle.cf_code.specs.Steps.Accesses.{based_spelling}
use Rattle.cf_code.specs.Sizes.{wide_size, HasSize}
use Rattle.cf_code.specs.declared.word.Word.{Word}
use Rattle.cf_code.specs.declared.word.Word.TheVariants.{Int, Long, Float, Double, Reference}
use Rattle.cf_code.specs.declared.local.LocalIndex.{LocalIndex}
use Rattle.cf_code.specs.declared.local.LocalIndex.TheVariants.{Short, Byte, Wide}
use Rattle.cf_code.specs.declared.local.Local.{Local as TheLocal}
use Rattle.cf_code.specs.declared.local.Local.TheVariants.{Load, Store, Iinc, IincWide, Ret, RetWide}
use Rattle.cf_code.specs.declared.instr.Instr.TheVariants.{Local}
use Rattle.cf_code.proofs.ByteLemmas.{two_back, signed_two_back}
use Rattle.cf_code.proofs.OpcodeLemmas.{Tells, fixed_sized, wide_sized, pair_back, read}

module _ (pc first opcode : ℕ) (of : LocalIndex → TheLocal) where
  -- each form of an access is read at its opcodes
  pub record Reads : Type 0 where
    pub at_0 : read pc ((first + 0) ∷ []) ≡ Local (of (Short 0))
    pub at_1 : read pc ((first + 1) ∷ []) ≡ Local (of (Short 1))
    pub at_2 : read pc ((first + 2) ∷ []) ≡ Local (of (Short 2))
    pub at_3 : read pc ((first + 3) ∷ []) ≡ Local (of (Short 3))
    pub byte : (n : ℕ) → read pc (opcode ∷ n ∷ []) ≡ Local (of (Byte n))
    pub wide : (n : ℕ) → read pc (196 ∷ opcode ∷ two n) ≡ Local (of (Wide (from_be_bytes w16 (two n))))

  access_back : Reads → (i : LocalIndex) → FitsIndex i → read pc (access_spelling first opcode i) ≡ Local (of i)
  access_back reads (Short zero) a = reads.at_0
  access_back reads (Short (suc zero)) a = reads.at_1
  access_back reads (Short (suc (suc zero))) a = reads.at_2
  access_back reads (Short (suc (suc (suc zero)))) a = reads.at_3
  access_back reads (Short (suc (suc (suc (suc n))))) a = absurd (omega arith)
  access_back reads (Byte n) a = reads.byte n
  access_back reads (Wide n) a = reads.wide n ∙ ap (λ (m : ℕ). Local (of (Wide m))) (two_back n a)

load_reads : (pc : ℕ) (w : Word) → Reads pc (load_first w) (load_opcode w) (Load w)
load_reads pc Int = record { at_0 = refl; at_1 = refl; at_2 = refl; at_3 = refl; byte = λ n. refl; wide = λ n. refl }
load_reads pc w = record { at_0 = refl; at_1 = refl; at_2 = refl; at_3 = refl; byte = λ n. refl; wide = λ n. refl }

store_reads : (pc : ℕ) (w : Word) → Reads pc (store_first w) (store_opcode w) (Store w)
store_reads pc Int = record { at_0 = refl; at_1 = refl; at_2 = refl; at_3 = refl; byte = λ n. refl; wide = λ n. refl }
store_reads pc w = record { at_0 = refl; at_1 = refl; at_2 = refl; at_3 = refl; byte = λ n. refl; wide = λ n. refl }

pub local_back : (pc : ℕ) (l : TheLocal) → FitsLocal l → read pc (local_spelling l) ≡ Local l
local_back pc (Load w i) a = access_back pc (load_first w) (load_opcode w) (Load w) (load_reads pc w) i a
local_back pc (Store w i) a = access_back pc (store_first w) (store_opcode w) (Store w) (store_reads pc w) i a
local_back pc (Iinc n z) a = ap (λ (y : ℤ). Local (Iinc n y)) (to_z-of_z w8 z a.1)
local_back pc (IincWide n z) a =
    ap (λ (m : ℕ). Local (IincWide m (to_z w16 (from_be_bytes w16 (signed_two z))))) (two_back n a.0)
    ∙ ap (λ (y : ℤ). Local (IincWide n y)) (signed_two_back z a.1)
local_back pc (Ret n) a = refl
local_back pc (RetWide n) a = pair_back (λ m. Local (RetWide m)) pc n a

-- loads and stores have one layout of opcodes
pub load_based : (w : Word) (i : LocalIndex) → load_spelling w i ≡ based_spelling 21 w i
load_based Int i = refl
load_based w i = refl

pub store_based : (w : Word) (i : LocalIndex) → store_spelling w i ≡ based_spelling 54 w i
store_based Int i = refl
store_based w i = refl

-- iload_0 to aload_3
load_tells : (opcode : ℕ) → 26 ≤ opcode → opcode ≤ 45 → Tells opcode 1
load_tells opcode a b = (grind (arith, nat_tests), grind (arith, nat_tests))

-- istore_0 to astore_3
store_tells : (opcode : ℕ) → 59 ≤ opcode → opcode ≤ 78 → Tells opcode 1
store_tells opcode a b = (grind (arith, nat_tests), grind (arith, nat_tests))

short_load_tells : (w : Word) (n : ℕ) → n ≤ 3 → Tells (load_first w + n) 1
short_load_tells Int n le = load_tells (26 + n) (omega arith) (omega arith)
short_load_tells Long n le = load_tells (30 + n) (omega arith) (omega arith)
short_load_tells Float n le = load_tells (34 + n) (omega arith) (omega arith)
short_load_tells Double n le = load_tells (38 + n) (omega arith) (omega arith)
short_load_tells Reference n le = load_tells (42 + n) (omega arith) (omega arith)

short_store_tells : (w : Word) (n : ℕ) → n ≤ 3 → Tells (store_first w + n) 1
short_store_tells Int n le = store_tells (59 + n) (omega arith) (omega arith)
short_store_tells Long n le = store_tells (63 + n) (omega arith) (omega arith)
short_store_tells Float n le = store_tells (67 + n) (omega arith) (omega arith)
short_store_tells Double n le = store_tells (71 + n) (omega arith) (omega arith)
short_store_tells Reference n le = store_tells (75 + n) (omega arith) (omega arith)

-- an index of a byte, and one behind wide
load_tells_two : (w : Word) → Tells (load_opcode w) 2
load_tells_two Int = (refl, refl)
load_tells_two w = (refl, refl)

store_tells_two : (w : Word) → Tells (store_opcode w) 2
store_tells_two Int = (refl, refl)
store_tells_two w = (refl, refl)

wide_load : (w : Word) (rest : List ℕ) → wide_size (load_opcode w ∷ rest) ≡ Some 4
wide_load Int rest = refl
wide_load w rest = refl

wide_store : (w : Word) (rest : List ℕ) → wide_size (store_opcode w ∷ rest) ≡ Some 4
wide_store Int rest = refl
wide_store w rest = refl

module _ (pc : ℕ) (rest : List ℕ) where
  -- an access, whose opcodes tell the sizes of its forms
  access_sized : (first opcode : ℕ) (i : LocalIndex) → ((n : ℕ) → n ≤ 3 → Tells (first + n) 1) → Tells opcode 2
      → ((tail : List ℕ) → wide_size (opcode ∷ tail) ≡ Some 4) → FitsIndex i
      → HasSize pc (access_spelling first opcode i ++ rest) (length (access_spelling first opcode i))
  access_sized first opcode (Short n) short byte wide fits = fixed_sized pc (first + n) [] rest (short n fits)
  access_sized first opcode (Byte n) short byte wide fits = fixed_sized pc opcode (n ∷ []) rest byte
  access_sized first opcode (Wide n) short byte wide fits =
      wide_sized pc opcode (two n) rest (wide (two n ++ rest))

  pub local_sized : (of : TheLocal) → FitsLocal of → HasSize pc (local_spelling of ++ rest) (length (local_spelling of))
  local_sized (Load w i) fits =
      access_sized (load_first w) (load_opcode w) i (short_load_tells w) (load_tells_two w) (wide_load w) fits
  local_sized (Store w i) fits =
      access_sized (store_first w) (store_opcode w) i (short_store_tells w) (store_tells_two w) (wide_store w) fits
  local_sized (Iinc n z) fits = fixed_sized pc 132 (n ∷ cast_unsigned w8 z ∷ []) rest (refl, refl)
  local_sized (IincWide n z) fits = wide_sized pc 132 (two n ++ signed_two z) rest refl
  local_sized (Ret n) fits = fixed_sized pc 169 (n ∷ []) rest (refl, refl)
  local_sized (RetWide n) fits = wide_sized pc 169 (two n) rest refl
