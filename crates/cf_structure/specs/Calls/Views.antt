-- What private functions read, and what they refuse a file for.
use Rattle.std.specs.Prelude.{◌≡◌, List, Result, Ok, Err, ℕ}
use Rattle.cf_pool.specs.declared.fault.PoolFault.{PoolFault}
use Rattle.cf_pool.specs.declared.fault.PoolFault.TheVariants as pool_faults
use Rattle.cf_structure.specs.declared.fault.ClassFault.{ClassFault}
use Rattle.cf_structure.specs.declared.fault.ClassFault.TheVariants as faults
use Rattle.cf_structure.specs.ClassFile.{fault_of}
use Rattle.cf_structure.specs.declared.fault.Cut.{Cut}
use Rattle.cf_structure.specs.declared.fault.Stop.{Stop}
use Rattle.cf_structure.specs.declared.fault.Stop.TheVariants.{At, NoMemory}

-- a reading that stopped is one with that fault, unless memory ran out
abbrev pub Stops : {Y : Type 0} → Stop → Result Y Cut → Type 0
Stops (At cut) read = read ≡ Err cut
Stops NoMemory read = Unit {0}

-- what a function returned, seen by view, is what reading gives, unless memory ran out
abbrev pub Gives : {X Y : Type 0} → (X → Y) → Result X Stop → Result Y Cut → Type 0
Gives view (Ok x) read = read ≡ Ok (view x)
Gives view (Err stop) read = Stops stop read

-- the refusal of a file for a part of it
abbrev pub refusal_of : List ℕ → Stop → ClassFault
refusal_of bytes (At cut) = faults.Malformed (fault_of bytes cut)
refusal_of bytes NoMemory = faults.NoMemory

abbrev pub of_pool : PoolFault → ClassFault
of_pool (pool_faults.Malformed fault) = faults.Malformed fault
of_pool pool_faults.NoMemory = faults.NoMemory
