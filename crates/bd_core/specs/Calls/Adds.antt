-- What functions ensure that put members behind others.
use Rattle.std.specs.Prelude.{◌≡◌, ◌≢◌, List, ◌++◌, Option, Some, None, Result, Ok, Err, Contains, ◌↔◌}
use Rattle.hi_tree.specs.declared.fault.TreeFault.{TreeFault}
use Rattle.hi_tree.specs.declared.fault.TreeFault.TheVariants.{NoMemory}
use Rattle.bd_core.specs.declared.member.Member.{Member}

-- behind the old members stand exactly those of which a rule speaks
pub record Adds (rule : Member → Type 0) (old new : List Member) : Type 0 where
  pub more : List Member
  pub grows : new ≡ old ++ more
  pub exact : (x : Member) → Contains more x ↔ rule x

-- what a rule gives for one of some items
abbrev pub Each : {A : Type 0} → List A → (A → Member → Type 0) → Member → Type 0
Each items rule x = (i : _) × Contains items i × rule i x

-- an option has exactly what a relation has
abbrev pub Tells : {A : Type 0} → Option A → (A → Type 0) → Type 0
Tells o relation = (a : _) → (o ≡ Some a) ↔ relation a

-- what a rule gives for what an option has
abbrev pub OfSome : {A : Type 0} → Option A → (A → Member → Type 0) → Member → Type 0
OfSome o rule x = (a : _) × (o ≡ Some a) × rule a x

abbrev pub Is : Member → Member → Type 0
Is member x = x ≡ member

-- what an answer tells: its value, or nothing where it is a fault other than want of memory
abbrev pub IsToldBy : {A : Type 0} → Result A TreeFault → Option A → Type 0
IsToldBy (Ok a) o = o ≡ Some a
IsToldBy (Err fault) o = (o ≡ None) × (fault ≢ NoMemory)
