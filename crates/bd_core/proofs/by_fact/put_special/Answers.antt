-- The method that is called, and the class that declares the resolved one.
use Rattle.std.proofs.Common.{subst, rules}
use Rattle.std.proofs.lemmas.Result.{on_ok_weaker}
use Rattle.bd_core.specs.Loads.{given}
use Rattle.bd_core.specs.Calls.Adds.{Tells}
use Rattle.hi_tree.specs.Resolution.{IsResolved}
use Rattle.hi_tree.specs.Special.{IsSpecial}
use Rattle.bd_core.proofs.FactLemmas.{special_gift}
use Rattle.bd_core.proofs.by_fact.put_special.Goals as goal

pub returns : goal.returns
returns c =
    let classes = (given c.args.loaded.now).classes in
    let t = c.in_ok-target.target in
    let r = c.in_ok-resolved.field-0 in
    let called : Tells t (IsSpecial classes c.args.caller.now.class c.args.interface c.args.at.now) =
    subst (λ cs. Tells t (IsSpecial cs c.args.caller.now.class c.args.interface c.args.at.now)) c.classes.ensures
    c.in_ok-target.ensures in
    let meant : Tells r (IsResolved classes c.args.interface c.args.at.now) =
    subst (λ cs. Tells r (IsResolved cs c.args.interface c.args.at.now)) c.classes-2.ensures
    c.in_ok-resolved.ensures in
    on_ok_weaker c.put_declarer.result
    (λ h pc. special_gift (given c.args.loaded.now) c.args.caller.now c.args.at.now c.args.interface _ _ _ pc t r
    called meant
    (search rules) h) c.put_declarer.ensures
