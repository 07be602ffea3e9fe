-- A class file's structure and its first fault (JVM Specification SE 8, 4.1).
use Rattle.std.specs.Prelude.{◌≡◌, ℕ, ◌-◌, List, length, drop, Ok, Err, ◌⊎◌}
use Rattle.cf_pool.specs.declared.entry.PoolEntry.{PoolEntry}
use Rattle.cf_pool.specs.declared.fault.Fault.{Fault}
use Rattle.cf_pool.specs.ConstantPool.{IsPool, IsPoolFault}
use Rattle.cf_structure.specs.declared.fault.Cut.{Cut}
use Rattle.cf_structure.specs.declared.fault.ClassFault.{ClassFault}
use Rattle.cf_structure.specs.declared.fault.ClassFault.TheVariants.{Malformed, NoMemory}
use Rattle.cf_structure.specs.declared.class_file.Version.{Version}
use Rattle.cf_structure.specs.Raw.{RawFile}
use Rattle.cf_structure.specs.Structure.{version_at, class_at}

-- the bytes begin with the magic number and this version
abbrev pub HasVersion : List ℕ → Version → Type 0
HasVersion bytes version = (rest : List ℕ) × (version_at bytes ≡ Ok (version, rest))

-- the file has this structure: behind the version the pool, and behind the pool the class, up to the end
pub record IsStructure (bytes : List ℕ) (file : RawFile) : Type 0 where
  pub place : ℕ
  pub version : HasVersion bytes file.version
  pub pool : IsPool bytes file.pool place
  pub class : class_at file.pool (drop place bytes) ≡ Ok file.class

-- the fault where so many bytes are left
abbrev pub fault_of : List ℕ → Cut → Fault
fault_of bytes cut = record { place = length bytes - cut.left; what = cut.what }

-- the magic number or the version is at fault, or cut
pub record IsVersionFault (bytes : List ℕ) (fault : Fault) : Type 0 where
  pub cut : Cut
  pub version : version_at bytes ≡ Err cut
  pub fault_is : fault ≡ fault_of bytes cut

-- the pool is at fault
pub record IsFaultOfPool (bytes : List ℕ) (fault : Fault) : Type 0 where
  pub version : Version
  pub has_version : HasVersion bytes version
  pub pool : IsPoolFault bytes fault

-- what stands behind the pool is at fault
pub record IsClassFault (bytes : List ℕ) (fault : Fault) : Type 0 where
  pub version : Version
  pub pool : List PoolEntry
  pub place : ℕ
  pub cut : Cut
  pub has_version : HasVersion bytes version
  pub has_pool : IsPool bytes pool place
  pub class : class_at pool (drop place bytes) ≡ Err cut
  pub fault_is : fault ≡ fault_of bytes cut

-- the first fault of a file's structure
abbrev pub IsStructureFault : List ℕ → Fault → Type 0
IsStructureFault bytes fault = IsVersionFault bytes fault ⊎ (IsFaultOfPool bytes fault ⊎ IsClassFault bytes fault)

-- a refusal names a fault of that kind, unless memory ran out
abbrev pub Names : (Fault → Type 0) → ClassFault → Type 0
Names P (Malformed fault) = P fault
Names P NoMemory = Unit {0}
