-- The instructions on objects: read back from their bytes, and as long as their opcodes tell.
use Rattle.std.proofs.Common.{◌≡◌, ℕ, List, [], ◌++◌, length, refl}
use Rattle.cf_code.specs.Bytes.{two}
use Rattle.cf_code.specs.Objects.{object_spelling, FitsObject}
use Rattle.cf_code.specs.Sizes.{HasSize}
use Rattle.cf_code.specs.declared.object.Object.{Object as TheObject}
use Rattle.cf_code.specs.declared.object.Object.TheVariants.{New, Throw, CheckCast, InstanceOf, MonitorEnter}
use Rattle.cf_code.specs.declared.object.Object.TheVariants.{MonitorExit}
use Rattle.cf_code.specs.declared.instr.Instr.TheVariants.{Object}
use Rattle.cf_code.proofs.OpcodeLemmas.{fixed_sized, pair_back, read}

pub object_back : (pc : ℕ) (o : TheObject) → FitsObject o → read pc (object_spelling o) ≡ Object o
object_back pc (New n) a = pair_back (λ m. Object (New m)) pc n a
object_back pc (CheckCast n) a = pair_back (λ m. Object (CheckCast m)) pc n a
object_back pc (InstanceOf n) a = pair_back (λ m. Object (InstanceOf m)) pc n a
object_back pc Throw a = refl
object_back pc MonitorEnter a = refl
object_back pc MonitorExit a = refl

module _ (pc : ℕ) (rest : List ℕ) where
  pub object_sized : (of : TheObject) → HasSize pc (object_spelling of ++ rest) (length (object_spelling of))
  object_sized (New n) = fixed_sized pc 187 (two n) rest (refl, refl)
  object_sized Throw = fixed_sized pc 191 [] rest (refl, refl)
  object_sized (CheckCast n) = fixed_sized pc 192 (two n) rest (refl, refl)
  object_sized (InstanceOf n) = fixed_sized pc 193 (two n) rest (refl, refl)
  object_sized MonitorEnter = fixed_sized pc 194 [] rest (refl, refl)
  object_sized MonitorExit = fixed_sized pc 195 [] rest (refl, refl)
