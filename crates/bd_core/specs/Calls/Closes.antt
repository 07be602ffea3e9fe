-- What functions ensure that bring members to be closed.
use Rattle.std.specs.Prelude.{◌≡◌, ℕ, ◌<◌, ◌≤◌, List, ◌++◌, Some, Contains, ◌⊎◌, length, slice_get, take}
use Rattle.std.specs.Prelude.{◌↔◌, Bool}
use Rattle.jv_base.specs.declared.method.MethodId.{MethodId}
use Rattle.bd_core.specs.declared.member.Member.{Member}
use Rattle.bd_core.specs.declared.member.Member.TheVariants.{Method, Called, Under}
use Rattle.bd_core.specs.Given.{Given}
use Rattle.bd_core.specs.Rules.{FromMember}
use Rattle.bd_core.specs.Calls.Gives.{FromFacts, IsChoice}

-- items are taken in behind the old members, each that does not stand there yet
pub record Takes (old items new : List Member) : Type 0 where
  pub more : List Member
  pub grows : new ≡ old ++ more
  pub among : (x : Member) → Contains more x → Contains items x
  pub covers : (x : Member) → Contains items x → Contains new x

-- what follows from the member at a place, with those before it
pub data FollowsAt (g : Given) (list : List Member) (place : ℕ) (x : Member) : Type 0 where
  by_itself : (p : Member) → slice_get list place ≡ Some p → FromMember g p x → FollowsAt g list place x
  by_facts : (m : MethodId) → slice_get list place ≡ Some (Method m) → FromFacts g m x → FollowsAt g list place x
  by_called : (class : List ℕ) (at : MethodId) (interface : Bool) → slice_get list place ≡ Some (Under class at.class)
      → Contains (take place list) (Called at interface) → IsChoice g class at interface x → FollowsAt g list place x
  by_under : (class : List ℕ) (at : MethodId) (interface : Bool) → slice_get list place ≡ Some (Called at interface)
      → Contains (take place list) (Under class at.class) → IsChoice g class at interface x → FollowsAt g list place x

-- the members are closed as far as those before a place go
pub record IsClosing (g : Given) (start list : List Member) (place : ℕ) : Type 0 where
  pub within : place ≤ length list
  pub started : (x : Member) → Contains start x → Contains list x
  pub closed : (at : ℕ) (x : Member) → at < place → FollowsAt g list at x → Contains list x
  pub derived : (at : ℕ) (x : Member) → slice_get list at ≡ Some x
      → Contains start x ⊎ ((before : ℕ) × (before < at) × FollowsAt g list before x)

-- what follows from the member at a place is taken in
pub record Steps (g : Given) (old : List Member) (place : ℕ) (new : List Member) : Type 0 where
  pub items : List Member
  pub exact : (x : Member) → Contains items x ↔ FollowsAt g old place x
  pub takes : Takes old items new
