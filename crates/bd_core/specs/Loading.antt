-- What the loading core promises: its events are a run over what it was told, and `take` answers by what is pending.
use Rattle.std.specs.Prelude.{◌≡◌, ℕ, true, List, [], ◌∷◌, ◌++◌, Some, Contains}
use Rattle.bd_core.specs.declared.item.Item.{Item}
use Rattle.bd_core.specs.declared.item.Event.{Event}
use Rattle.bd_core.specs.declared.item.Event.TheVariants.{Take}
use Rattle.bd_core.specs.declared.item.Took.{Took}
use Rattle.bd_core.specs.declared.item.Took.TheVariants as answers
use Rattle.bd_core.specs.declared.job.Job.{Job}
use Rattle.bd_core.specs.declared.loading.Core.{Core}
use Rattle.bd_core.specs.Told.{Told}
use Rattle.bd_core.specs.Runs.{IsRun, IsAsked, IsPending, IsExhausted, IsBusy, IsIdle, holder}
use Rattle.bd_core.specs.Loads.{told}
use Rattle.bd_core.specs.Calls.Logs.{IsLogged}

-- what a core loads for, its events in order, and what it was told
abbrev pub job_of : Core → Job
job_of core = core.job

abbrev pub events_of : Core → List Event
events_of core = core.log.events.items

abbrev pub told_of : Core → Told
told_of core = told core.loaded

-- what holds of each core between its calls: the events are a run; the rest is its own
pub record IsKept (core : Core) : Type 0 where
  pub run : IsRun (job_of core) (events_of core) (told_of core)
  pub logged : IsLogged core.log
  pub queued : (item : Item) → Contains core.queue item → IsAsked (job_of core) (told_of core).given item
  pub settled : core.settled ≡ true → (item : Item) → IsPending (job_of core) (told_of core) (events_of core) item
      → Contains core.queue item

-- what `take` answers by what is pending, and the events then: an item exactly where one is pending, and of the two other
-- answers the one that says whether a worker has an item
abbrev pub Answers : Job → Told → List Event → ℕ → Took → List Event → Type 0
Answers j t events worker (answers.Item item) after =
    IsPending j t events item × (after ≡ events ++ Take worker item ∷ []) × (holder after item ≡ Some worker)
Answers j t events worker answers.Later after = IsExhausted j t events × IsBusy events × (after ≡ events)
Answers j t events worker answers.Closed after = IsExhausted j t events × IsIdle events × (after ≡ events)
Answers j t events worker answers.NoMemory after = after ≡ events

-- a call leaves one event more, or all as it was
pub record Leaves (old new : Core) (event : Event) : Type 0 where
  pub job : job_of new ≡ job_of old
  pub events : events_of new ≡ events_of old ++ event ∷ []

pub record IsAsBefore (old new : Core) : Type 0 where
  pub job : job_of new ≡ job_of old
  pub told : told_of new ≡ told_of old
  pub events : events_of new ≡ events_of old
