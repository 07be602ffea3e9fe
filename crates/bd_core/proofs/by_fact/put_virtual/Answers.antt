-- The call, and the class that declares its method.
use Rattle.std.proofs.Common.{◌≡◌, ap, subst, rules}
use Rattle.std.proofs.lemmas.Result.{on_ok_weaker}
use Rattle.bd_core.specs.Loads.{given}
use Rattle.bd_core.specs.Calls.Adds.{Tells}
use Rattle.bd_core.specs.declared.member.Member.TheVariants.{Called}
use Rattle.hi_tree.specs.Resolution.{IsResolved}
use Rattle.bd_core.proofs.AddsLemmas.{adds_is}
use Rattle.bd_core.proofs.FactLemmas.{virtual_gift}
use Rattle.bd_core.proofs.by_fact.put_virtual.Goals as goal

pub returns : goal.returns
returns c =
    let r = c.in_ok-resolved.field-0 in
    let same : c.in_ok-copy.field-0 ≡ c.args.at.now = search rules in
    let tells : Tells r (IsResolved (given c.args.loaded.now).classes c.args.interface c.args.at.now) =
    subst (λ cs. Tells r (IsResolved cs c.args.interface c.args.at.now)) c.classes.ensures c.in_ok-resolved.ensures in
    on_ok_weaker c.put_declarer.result
    (λ h pc m. virtual_gift (given c.args.loaded.now) m c.args.at.now c.args.interface _ _ _ pc r tells
    (adds_is (Called c.in_ok-copy.field-0 c.args.interface) (Called c.args.at.now c.args.interface) _ _
    (ap (λ a. Called a c.args.interface) same) (search rules)) h) c.put_declarer.ensures
