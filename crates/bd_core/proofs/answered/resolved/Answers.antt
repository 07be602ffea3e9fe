-- The laws make the answer exact.
use Rattle.std.proofs.lemmas.Result.{IfOk-weaker}
use Rattle.hi_tree.specs.Resolution.{IsResolved, IsResolveFault}
use Rattle.bd_core.specs.Calls.Adds.{Tells, IsToldBy}
use Rattle.bd_core.proofs.ToldLemmas.{tells}
use Rattle.bd_core.proofs.answered.resolved.Goals as goal

pub returns : goal.returns
returns c =
    IfOk-weaker c.told.result (IsToldBy c.resolve.result) (λ o. Tells o
    (IsResolved c.args.classes.now c.args.interface c.args.at.now))
    (λ o h. tells (IsResolved c.args.classes.now c.args.interface c.args.at.now)
    (IsResolveFault c.args.classes.now c.args.interface c.args.at.now)
    (c.method_laws.ensures.resolved c.args.classes.now c.args.interface c.args.at.now)
    (c.fault_laws.ensures.resolve c.args.classes.now c.args.interface c.args.at.now).none
    c.resolve.result o c.resolve.ensures.found c.resolve.ensures.fault h)
    c.told.ensures
