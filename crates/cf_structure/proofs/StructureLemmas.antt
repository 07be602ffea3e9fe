-- What was read of a file's parts makes its structure, or its fault.
use Rattle.std.proofs.Common.{◌≡◌, ℕ, ◌<◌, List, drop, Ok, refl, inl, inr}
use Rattle.std.proofs.lemmas.List.Elements.{All-from_get_or}
use Rattle.cf_pool.specs.declared.entry.PoolEntry.{PoolEntry}
use Rattle.cf_pool.specs.declared.fault.PoolFault.{PoolFault}
use Rattle.cf_pool.specs.declared.fault.PoolFault.TheVariants as pool_faults
use Rattle.cf_pool.specs.ConstantPool.{IsPool, IsPoolFault, Names as PoolNames}
use Rattle.cf_structure.specs.declared.fault.Stop.{Stop}
use Rattle.cf_structure.specs.declared.fault.Stop.TheVariants.{At, NoMemory}
use Rattle.cf_structure.specs.declared.fault.ClassFault.{ClassFault}
use Rattle.cf_structure.specs.declared.fault.ClassFault.TheVariants as faults
use Rattle.cf_structure.specs.declared.class_file.Version.{Version}
use Rattle.cf_structure.specs.Raw.{RawClass, RawFile}
use Rattle.cf_structure.specs.Structure.{version_at, class_at}
use Rattle.cf_structure.specs.ClassFile.{IsStructure, IsStructureFault, Names}
use Rattle.cf_structure.specs.Laws.{OneStructure}
use Rattle.cf_structure.specs.Calls.Views.{Stops, refusal_of, of_pool}
use Rattle.cf_structure.proofs.ReadLemmas.{AreBytes}

-- a refusal that names a fault leaves no structure
pub is_outside : OneStructure → (bytes : List ℕ) → AreBytes bytes → (refusal : ClassFault)
    → Names (IsStructureFault bytes) refusal → Names (λ _. (file : RawFile) → IsStructure bytes file → ⊥) refusal
is_outside law bytes fits (faults.Malformed fault) named =
    λ file is. (law bytes (All-from_get_or (λ b. b < 256) bytes 0 (λ i lt. fits i))).not_both file fault is named
is_outside law bytes fits faults.NoMemory named = tt

module _ (bytes : List ℕ) (version : Version) (rest : List ℕ) (read : version_at bytes ≡ Ok (version, rest)) where
  pub pool_named : (fault : PoolFault) → PoolNames (IsPoolFault bytes) fault
      → Names (IsStructureFault bytes) (of_pool fault)
  pool_named (pool_faults.Malformed fault) named =
      inr (inl (record { version = version; has_version = (rest, read); pool = named }))
  pool_named pool_faults.NoMemory named = tt

  pub class_named : (pool : List PoolEntry) (place : ℕ) (stop : Stop) → IsPool bytes pool place
      → Stops stop (class_at pool (drop place bytes)) → Names (IsStructureFault bytes) (refusal_of bytes stop)
  class_named pool place (At cut) has stops =
      inr (inr (record {
        version = version;
        pool = pool;
        place = place;
        cut = cut;
        has_version = (rest, read);
        has_pool = has;
        class = stops;
        fault_is = refl;
      }))
  class_named pool place NoMemory has stops = tt

  pub structure_of : (pool : List PoolEntry) (place : ℕ) (class : RawClass) → IsPool bytes pool place
      → class_at pool (drop place bytes) ≡ Ok class
      → IsStructure bytes (record { version = version; pool = pool; class = class })
  structure_of pool place class has is = record { place = place; version = (rest, read); pool = has; class = is }
