-- The class of the method.
use Rattle.std.proofs.Common.{◌≡◌, ap, rules}
use Rattle.bd_core.specs.declared.member.Member.TheVariants.{Made}
use Rattle.bd_core.specs.Given.{HasReceiver}
use Rattle.bd_core.specs.Calls.Adds.{Is}
use Rattle.bd_core.proofs.AddsLemmas.{adds_is, adds_where}
use Rattle.bd_core.proofs.entry.put_receiver.Goals as goal

pub returns-in_ok-put : goal.returns-in_ok-put
returns-in_ok-put c =
    let m = c.args.entry.now in
    let same : c.in_ok-copy.field-0 ≡ m.class = search rules in
    let has : HasReceiver c.args.loaded.now.classes m = search rules in
    adds_where (HasReceiver c.args.loaded.now.classes m) (Is (Made m.class)) c.args.out.now _ has
    (adds_is (Made c.in_ok-copy.field-0) (Made m.class) _ _ (ap Made same) (search rules))
