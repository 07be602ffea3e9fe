-- The laws make the answer exact.
use Rattle.std.proofs.lemmas.Result.{IfOk-weaker}
use Rattle.hi_tree.specs.Selection.{IsSelected, IsSelectFault}
use Rattle.bd_core.specs.Calls.Adds.{Tells, IsToldBy}
use Rattle.bd_core.proofs.ToldLemmas.{tells}
use Rattle.bd_core.proofs.answered.selected.Goals as goal

pub returns : goal.returns
returns c =
    IfOk-weaker c.told.result (IsToldBy c.select.result) (λ o. Tells o
    (IsSelected c.args.classes.now c.args.class.now c.args.resolved.now))
    (λ o h. tells (IsSelected c.args.classes.now c.args.class.now c.args.resolved.now)
    (IsSelectFault c.args.classes.now c.args.class.now c.args.resolved.now)
    (c.method_laws.ensures.selected c.args.classes.now c.args.class.now c.args.resolved.now)
    (c.fault_laws.ensures.select c.args.classes.now c.args.class.now c.args.resolved.now).none
    c.select.result o c.select.ensures.found c.select.ensures.fault h)
    c.told.ensures
