-- What holds of the least sets, and of runs.
use Rattle.std.specs.Prelude.{◌≡◌, ℕ, false, List, [], ◌∷◌, ◌++◌, Some, Contains}
use Rattle.bd_core.specs.declared.member.Member.{Member}
use Rattle.bd_core.specs.declared.job.Job.{Job}
use Rattle.bd_core.specs.declared.item.Event.{Event}
use Rattle.bd_core.specs.declared.item.Item.{Item}
use Rattle.bd_core.specs.Given.{Given}
use Rattle.bd_core.specs.Told.{Told, is_given}
use Rattle.bd_core.specs.Runs.{IsRun, held_after, holder}
use Rattle.bd_core.specs.Least.{IsClosed, IsLeast}

-- the least set is contained in each closed one
abbrev pub LeastIsContained : Type 0
LeastIsContained = (j : Job) (g : Given) (least closed : List Member) → IsLeast j g least → IsClosed j g closed
    → (m : Member) → Contains least m → Contains closed m

-- an event more says who has its item, and leaves who has another
abbrev pub HolderAfter : Type 0
HolderAfter = (events : List Event) (event : Event) (i : Item)
    → holder (events ++ event ∷ []) i ≡ held_after (holder events) event i

-- an item that a worker has was not given
abbrev pub HeldNotGiven : Type 0
HeldNotGiven = (j : Job) (events : List Event) (t : Told) (i : Item) (worker : ℕ) → IsRun j events t
    → holder events i ≡ Some worker → is_given t i ≡ false
