-- What a call tells of the demands of a part of a class file.
use Rattle.std.specs.Prelude.{◌≡◌, ℕ, ◌≤◌, List, Result, Ok, Err}
use Rattle.std.specs.List.{AllByRecursion}
use Rattle.jv_list.specs.Firsts.{FirstBreaks}
use Rattle.cf_pool.specs.declared.entry.PoolEntry.{PoolEntry}
use Rattle.cf_pool.specs.declared.fault.What.{What}
use Rattle.cf_pool.specs.declared.fault.Fault.{Fault}
use Rattle.cf_structure.specs.declared.fault.ClassFault.{ClassFault}
use Rattle.cf_structure.specs.ClassFile.{Names}
use Rattle.cf_judge.specs.Words.{rank}
use Rattle.cf_judge.specs.Demands.{Demand}
use Rattle.cf_judge.specs.Judged.{Breaks}

-- no word says that the demand is broken
abbrev pub IsKept : List PoolEntry → Demand → Type 0
IsKept pool d = (what : What) → Breaks pool d.rule what → ⊥

-- the demand is broken, and the fault has the first word for it
pub record IsBroken (pool : List PoolEntry) (d : Demand) (fault : Fault) : Type 0 where
  pub place_is : fault.place ≡ d.place
  pub breaks : Breaks pool d.rule fault.what
  pub first : (what : What) → Breaks pool d.rule what → rank fault.what ≤ rank what

unfoldable pub AreKept : List PoolEntry → List Demand → Type 0
AreKept pool ds = AllByRecursion (IsKept pool) ds

-- the first demand that is broken has the fault
unfoldable pub IsFirstBroken : List PoolEntry → List Demand → Fault → Type 0
IsFirstBroken pool ds fault = FirstBreaks (λ d. IsBroken pool d fault) (IsKept pool) ds

-- all demands of a part are kept, and it ends at that place; or a refusal names the fault of the first that is broken
abbrev pub Tells : List PoolEntry → List Demand → ℕ → Result ℕ ClassFault → Type 0
Tells pool ds end (Ok place) = (place ≡ end) × AreKept pool ds
Tells pool ds end (Err refusal) = Names (IsFirstBroken pool ds) refusal
