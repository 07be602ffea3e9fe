-- What fails of the code of methods, and the first of it.
use Rattle.std.specs.Prelude.{◌≡◌, ℕ, ◌+◌, List, Contains, ◌⊎◌}
use Rattle.cf_pool.specs.declared.entry.PoolEntry.{PoolEntry}
use Rattle.cf_pool.specs.declared.fault.What.{What}
use Rattle.cf_pool.specs.declared.fault.What.TheVariants.{BadOpcode, BadTarget, BadIndex}
use Rattle.cf_pool.specs.declared.fault.Fault.{Fault}
use Rattle.cf_structure.specs.Raw.{RawFile}
use Rattle.cf_code.specs.declared.code.Placed.{Placed}
use Rattle.cf_code.specs.Decoding.{BeginsWith, HasBadOpcode, HasBadTarget}
use Rattle.cf_judge.specs.Judged.{IsFirst}
use Rattle.cf_bodies.specs.Needs.{need, IsMet}
use Rattle.cf_bodies.specs.Rows.{IsBadRow}
use Rattle.cf_bodies.specs.Checks.{Check, is_code, is_row, CheckAt, checks}

-- the instruction at a pc, before the first fault of the bytes, lacks what it needs
pub record HasUnmet (pool : List PoolEntry) (bytes : List ℕ) (pc : ℕ) : Type 0 where
  pub code : List Placed
  pub placed : Placed
  pub begins : BeginsWith bytes code
  pub is_placed : Contains code placed
  pub pc_is : placed.pc ≡ pc
  pub unmet : IsMet pool (need placed.instr) → ⊥

-- a check fails so many bytes behind its place; this is the word for it
abbrev pub Fails : List PoolEntry → Check → ℕ → What → Type 0
Fails pool (is_code bytes) offset what =
    ((what ≡ BadOpcode) × HasBadOpcode bytes offset)
    ⊎ ((what ≡ BadTarget) × HasBadTarget bytes offset)
    ⊎ ((what ≡ BadIndex) × HasUnmet pool bytes offset)
Fails pool (is_row bytes row) offset what = (what ≡ BadTarget) × (offset ≡ 0) × IsBadRow bytes row

-- one of the checks fails with that fault
pub record IsFailure (pool : List PoolEntry) (all : List CheckAt) (fault : Fault) : Type 0 where
  pub failed : CheckAt
  pub offset : ℕ
  pub is_checked : Contains all failed
  pub place_is : fault.place ≡ failed.place + offset
  pub fails : Fails pool failed.check offset fault.what

-- nothing is wrong with the code of the methods of a file
abbrev pub HasGoodBodies : RawFile → Type 0
HasGoodBodies file = (fault : Fault) → IsFailure file.pool (checks file) fault → ⊥

-- the first fault of the code of methods
pub record IsBodyFault (file : RawFile) (fault : Fault) : Type 0 where
  pub failure : IsFailure file.pool (checks file) fault
  pub first : (other : Fault) → IsFailure file.pool (checks file) other → IsFirst fault other
