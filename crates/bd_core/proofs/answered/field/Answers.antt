-- The laws make the answer exact.
use Rattle.std.proofs.lemmas.Result.{IfOk-weaker}
use Rattle.hi_tree.specs.Fields.{IsField, IsFieldFault}
use Rattle.bd_core.specs.Calls.Adds.{Tells, IsToldBy}
use Rattle.bd_core.proofs.ToldLemmas.{tells}
use Rattle.bd_core.proofs.answered.field.Goals as goal

pub returns : goal.returns
returns c =
    IfOk-weaker c.told.result (IsToldBy c.field.result) (λ o. Tells o (IsField c.args.classes.now c.args.at.now))
    (λ o h. tells (IsField c.args.classes.now c.args.at.now) (IsFieldFault c.args.classes.now c.args.at.now)
    (c.method_laws.ensures.field c.args.classes.now c.args.at.now)
    (c.fault_laws.ensures.field c.args.classes.now c.args.at.now).none
    c.field.result o c.field.ensures.found c.field.ensures.fault h)
    c.told.ensures
