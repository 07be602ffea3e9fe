-- Both.
use Rattle.std.proofs.Common.{◌≡◌, ap, rules}
use Rattle.std.proofs.lemmas.Result.{on_ok_weaker}
use Rattle.bd_core.specs.declared.member.Member.TheVariants.{Known}
use Rattle.bd_core.specs.Loads.{given}
use Rattle.bd_core.proofs.AddsLemmas.{adds_is}
use Rattle.bd_core.proofs.GiftLemmas.{executed_gifts}
use Rattle.bd_core.proofs.by_member.put_executed.Goals as goal

pub returns : goal.returns
returns c =
    let same : c.in_ok-copy.field-0 ≡ c.args.method.now.class = search rules in
    on_ok_weaker c.put_row.result
    (executed_gifts (given c.args.loaded.now) _ _ _ c.args.method.now
    (adds_is (Known c.in_ok-copy.field-0) (Known c.args.method.now.class) _ _ (ap Known same) (search rules)))
    c.put_row.ensures
