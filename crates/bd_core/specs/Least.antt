-- The least sets: closed under the rules, and with a derivation of each member.
use Rattle.std.specs.Prelude.{◌≡◌, ℕ, List, Some, Contains, slice_get, take}
use Rattle.bd_core.specs.declared.member.Member.{Member}
use Rattle.bd_core.specs.declared.job.Job.{Job}
use Rattle.bd_core.specs.Given.{Given}
use Rattle.bd_core.specs.Rules.{Follows}

-- each rule's conclusion holds where its premises do
abbrev pub IsClosed : Job → Given → List Member → Type 0
IsClosed j g members = (m : Member) → Follows j g members m → Contains members m

-- each member of a list follows by one rule from those before it
abbrev pub IsDerivation : Job → Given → List Member → Type 0
IsDerivation j g members =
    (place : ℕ) (m : Member) → slice_get members place ≡ Some m → Follows j g (take place members) m

-- the set that the rules allow: closed, and each member stands in a derivation
pub record IsLeast (j : Job) (g : Given) (members : List Member) : Type 0 where
  pub closed : IsClosed j g members
  pub derived : (m : Member) → Contains members m
      → (list : List Member) × IsDerivation j g list × Contains list m
