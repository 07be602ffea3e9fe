-- All that are free are left.
use Rattle.std.proofs.Common.{length}
use Rattle.bd_core.specs.Loads.{told}
use Rattle.bd_core.specs.Calls.Queues.{IsFree}
use Rattle.bd_core.proofs.QueueLemmas.{IsLeft}
use Rattle.bd_core.proofs.queue.pop_free.Given as goal

abbrev pub invariant-items : goal.invariant-items
invariant-items l = IsLeft (IsFree (told l.fn.loaded) l.fn.log.events.items) l.fn.items l.items

abbrev pub decreases-items : goal.decreases-items
decreases-items l = length l.items
