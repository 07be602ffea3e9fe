-- The three judgements of a class file, one after the other: its structure, its names, descriptors and indices, the code of its
-- methods. A file has the fault of the first of them that has one.
use Rattle.std.specs.Prelude.{ℕ, List, ◌⊎◌}
use Rattle.cf_pool.specs.declared.fault.Fault.{Fault}
use Rattle.cf_structure.specs.Raw.{RawFile}
use Rattle.cf_structure.specs.ClassFile.{IsStructure, IsStructureFault}
use Rattle.cf_judge.specs.Judged.{IsJudged, IsJudgedFault}
use Rattle.cf_bodies.specs.Judged.{HasGoodBodies, IsBodyFault}

-- the bytes are this file, and it is in order
pub record IsInOrder (bytes : List ℕ) (file : RawFile) : Type 0 where
  pub structure : IsStructure bytes file
  pub judged : IsJudged file
  pub bodies : HasGoodBodies file

-- the bytes have a structure, and a name, a descriptor, an index or a flag of it is at fault
pub record IsFaultOfNames (bytes : List ℕ) (fault : Fault) : Type 0 where
  pub file : RawFile
  pub structure : IsStructure bytes file
  pub fault_is : IsJudgedFault file fault

-- these are in order too, and the code of a method is at fault
pub record IsFaultOfBodies (bytes : List ℕ) (fault : Fault) : Type 0 where
  pub file : RawFile
  pub structure : IsStructure bytes file
  pub judged : IsJudged file
  pub fault_is : IsBodyFault file fault

-- the fault of a file
abbrev pub IsFaultOf : List ℕ → Fault → Type 0
IsFaultOf bytes fault = IsStructureFault bytes fault ⊎ (IsFaultOfNames bytes fault ⊎ IsFaultOfBodies bytes fault)
