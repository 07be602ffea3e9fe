-- What private functions of the core ask for and ensure.
use Rattle.std.specs.Prelude.{◌≡◌, true, Contains, ◌⊎◌}
use Rattle.bd_core.specs.declared.item.Item.{Item}
use Rattle.bd_core.specs.declared.loading.Core.{Core}
use Rattle.bd_core.specs.Runs.{IsRun, IsAsked, IsPending}
use Rattle.bd_core.specs.Loading.{job_of, events_of, told_of}
use Rattle.bd_core.specs.Calls.Logs.{IsLogged}

-- a core whose item was taken out of the queue
pub record IsKeptBut (core : Core) (item : Item) : Type 0 where
  pub run : IsRun (job_of core) (events_of core) (told_of core)
  pub logged : IsLogged core.log
  pub queued : (i : Item) → Contains core.queue i → IsAsked (job_of core) (told_of core).given i
  pub pending : IsPending (job_of core) (told_of core) (events_of core) item
  pub left : core.settled ≡ true → (i : Item) → IsPending (job_of core) (told_of core) (events_of core) i
      → (item ≡ i) ⊎ Contains core.queue i
