-- Both.
use Rattle.std.proofs.Common.{◌≡◌, ap, rules}
use Rattle.std.proofs.lemmas.Result.{on_ok_weaker}
use Rattle.bd_core.specs.declared.member.Member.TheVariants.{Method, Initialised}
use Rattle.bd_core.specs.Calls.Adds.{Is}
use Rattle.bd_core.proofs.AddsLemmas.{adds_is, adds_both}
use Rattle.bd_core.proofs.entry.put_root.Goals as goal

pub returns : goal.returns
returns c =
    let m = c.args.entry.now in
    let one : c.in_ok-copy.field-0 ≡ m = search rules in
    let two : c.in_ok-copy-2.field-0 ≡ m.class = search rules in
    on_ok_weaker c.put-2.result
    (λ h. adds_both (Is (Method m)) (Is (Initialised m.class)) c.args.out.now c.put.new.out c.put-2.new.out
    (adds_is (Method c.in_ok-copy.field-0) (Method m) _ _ (ap Method one) (search rules))
    (adds_is (Initialised c.in_ok-copy-2.field-0) (Initialised m.class) _ _ (ap Initialised two) h)) c.put-2.ensures
