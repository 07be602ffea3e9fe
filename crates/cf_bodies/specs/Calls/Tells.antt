-- What a call tells of checks.
use Rattle.std.specs.Prelude.{◌≡◌, ℕ, ◌+◌, ◌<◌, ◌≤◌, List, Result, Ok, Err, ◌⊎◌}
use Rattle.std.specs.List.{AllByRecursion}
use Rattle.jv_list.specs.Firsts.{FirstBreaks}
use Rattle.cf_pool.specs.declared.entry.PoolEntry.{PoolEntry}
use Rattle.cf_pool.specs.declared.fault.What.{What}
use Rattle.cf_pool.specs.declared.fault.Fault.{Fault}
use Rattle.cf_structure.specs.declared.fault.ClassFault.{ClassFault}
use Rattle.cf_structure.specs.ClassFile.{Names}
use Rattle.cf_judge.specs.Words.{rank}
use Rattle.cf_bodies.specs.Checks.{CheckAt}
use Rattle.cf_bodies.specs.Judged.{Fails}

-- the check fails nowhere
abbrev pub IsPassed : List PoolEntry → CheckAt → Type 0
IsPassed pool c = (offset : ℕ) (what : What) → Fails pool c.check offset what → ⊥

-- the check fails, and the fault is the first of it
pub record IsFailed (pool : List PoolEntry) (c : CheckAt) (fault : Fault) : Type 0 where
  pub offset : ℕ
  pub place_is : fault.place ≡ c.place + offset
  pub fails : Fails pool c.check offset fault.what
  pub first : (other : ℕ) (what : What) → Fails pool c.check other what
      → (offset < other) ⊎ ((offset ≡ other) × (rank fault.what ≤ rank what))

abbrev pub ArePassed : List PoolEntry → List CheckAt → Type 0
ArePassed pool cs = AllByRecursion (IsPassed pool) cs

-- the first check that fails has the fault
abbrev pub IsFirstFailed : List PoolEntry → List CheckAt → Fault → Type 0
IsFirstFailed pool cs fault = FirstBreaks (λ c. IsFailed pool c fault) (IsPassed pool) cs

-- all checks are passed, and what is given is as it has to be; or a refusal names the fault of the first that fails
abbrev pub Tells : {X : Type 0} → List PoolEntry → List CheckAt → (X → Type 0) → Result X ClassFault → Type 0
Tells pool cs IsGood (Ok x) = IsGood x × ArePassed pool cs
Tells pool cs IsGood (Err refusal) = Names (IsFirstFailed pool cs) refusal
