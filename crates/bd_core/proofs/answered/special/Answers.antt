-- The laws make the answer exact.
use Rattle.std.proofs.lemmas.Result.{IfOk-weaker}
use Rattle.hi_tree.specs.Special.{IsSpecial, IsSpecialFault}
use Rattle.bd_core.specs.Calls.Adds.{Tells, IsToldBy}
use Rattle.bd_core.proofs.ToldLemmas.{tells}
use Rattle.bd_core.proofs.answered.special.Goals as goal

pub returns : goal.returns
returns c =
    IfOk-weaker c.told.result (IsToldBy c.special.result) (λ o. Tells o
    (IsSpecial c.args.classes.now c.args.caller.now c.args.interface c.args.at.now))
    (λ o h. tells (IsSpecial c.args.classes.now c.args.caller.now c.args.interface c.args.at.now)
    (IsSpecialFault c.args.classes.now c.args.caller.now c.args.interface c.args.at.now)
    (c.method_laws.ensures.special c.args.classes.now c.args.caller.now c.args.interface c.args.at.now)
    (c.fault_laws.ensures.special c.args.classes.now c.args.caller.now c.args.interface c.args.at.now).none
    c.special.result o c.special.ensures.found c.special.ensures.fault h)
    c.told.ensures
