-- The instructions that call a method: read back from their bytes, and as long as their opcodes tell.
use Rattle.std.proofs.Common.{◌≡◌, ℕ, List, [], ◌∷◌, ◌++◌, length, refl, ◌∙◌}
use Rattle.std.specs.Int.{w16, from_be_bytes}
use Rattle.cf_code.specs.Bytes.{two}
use Rattle.cf_code.specs.Calls.{call_spelling, FitsCall}
use Rattle.cf_code.specs.Sizes.{HasSize}
use Rattle.cf_code.specs.declared.call.Call.{Call as TheCall}
use Rattle.cf_code.specs.declared.call.Call.TheVariants.{Virtual, Special, Static, Interface, Dynamic}
use Rattle.cf_code.specs.declared.instr.Instr.TheVariants.{Call}
use Rattle.cf_code.proofs.OpcodeLemmas.{fixed_sized, pair_back, read}

pub call_back : (pc : ℕ) (c : TheCall) → FitsCall c → read pc (call_spelling c) ≡ Call c
call_back pc (Virtual n) a = pair_back (λ m. Call (Virtual m)) pc n a
call_back pc (Special n) a = pair_back (λ m. Call (Special m)) pc n a
call_back pc (Static n) a = pair_back (λ m. Call (Static m)) pc n a
call_back pc (Interface n count last) a = pair_back (λ m. Call (Interface m count last)) pc n a.0
call_back pc (Dynamic n last) a =
    pair_back (λ m. Call (Dynamic m (from_be_bytes w16 (two last)))) pc n a.0
    ∙ pair_back (λ m. Call (Dynamic n m)) pc last a.1

module _ (pc : ℕ) (rest : List ℕ) where
  pub call_sized : (of : TheCall) → HasSize pc (call_spelling of ++ rest) (length (call_spelling of))
  call_sized (Virtual n) = fixed_sized pc 182 (two n) rest (refl, refl)
  call_sized (Special n) = fixed_sized pc 183 (two n) rest (refl, refl)
  call_sized (Static n) = fixed_sized pc 184 (two n) rest (refl, refl)
  call_sized (Interface n count last) = fixed_sized pc 185 (two n ++ count ∷ last ∷ []) rest (refl, refl)
  call_sized (Dynamic n last) = fixed_sized pc 186 (two n ++ two last) rest (refl, refl)
