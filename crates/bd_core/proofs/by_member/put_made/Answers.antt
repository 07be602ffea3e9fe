-- Both.
use Rattle.std.proofs.Common.{◌≡◌, ap, rules, ◌∙◌}
use Rattle.std.proofs.lemmas.Result.{on_ok_weaker}
use Rattle.bd_core.specs.declared.member.Member.TheVariants.{Known, Under}
use Rattle.bd_core.specs.Loads.{given}
use Rattle.bd_core.proofs.AddsLemmas.{adds_is}
use Rattle.bd_core.proofs.GiftLemmas.{made_gifts}
use Rattle.bd_core.proofs.by_member.put_made.Goals as goal

pub returns : goal.returns
returns c =
    let one : c.in_ok-copy.field-0 ≡ c.args.class.now = search rules in
    let two : c.in_ok-copy-2.field-0 ≡ c.args.class.now = search rules in
    let three : c.in_ok-copy-3.field-0 ≡ c.args.class.now = search rules in
    on_ok_weaker c.put-2.result
    (λ h. made_gifts (given c.args.loaded.now) _ _ _ c.args.class.now
    (adds_is (Known c.in_ok-copy.field-0) (Known c.args.class.now) _ _ (ap Known one) (search rules))
    (adds_is (Under c.in_ok-copy-2.field-0 c.in_ok-copy-3.field-0) (Under c.args.class.now c.args.class.now) _ _
    (ap (λ n. Under n c.in_ok-copy-3.field-0) two ∙ ap (Under c.args.class.now) three) h)) c.put-2.ensures
