-- What the least set asks for.
use Rattle.std.proofs.Common.{rules}
use Rattle.std.proofs.lemmas.Result.{IfOk-weaker}
use Rattle.bd_core.specs.Loads.{given}
use Rattle.bd_core.specs.Least.{IsLeast}
use Rattle.bd_core.proofs.QueueLemmas.{asked_exactly}
use Rattle.bd_core.proofs.queue.asked.Goals as goal

pub returns : goal.returns
returns c =
    let g = given c.args.loaded.now in
    let j = c.args.job.now in
    let least : IsLeast j g c.in_ok-members.members = search rules in
    IfOk-weaker c.items_of.result _ _ (asked_exactly j g c.in_ok-members.members least) c.items_of.ensures
