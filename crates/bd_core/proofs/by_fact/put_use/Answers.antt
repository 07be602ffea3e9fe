-- A static field is used.
use Rattle.std.proofs.Common.{◌≡◌, ap, rules}
use Rattle.std.proofs.lemmas.Result.{on_ok_weaker}
use Rattle.bd_core.specs.declared.member.Member.TheVariants.{Initialised}
use Rattle.bd_core.specs.Rules.{IsStaticUse}
use Rattle.bd_core.specs.Calls.Adds.{Is}
use Rattle.bd_core.proofs.AddsLemmas.{adds_is, adds_where}
use Rattle.bd_core.proofs.by_fact.put_use.Goals as goal

pub returns-in_ok-copy-in-GetStatic : goal.returns-in_ok-copy-in-GetStatic
returns-in_ok-copy-in-GetStatic c =
    let same : c.in_ok-copy-in-GetStatic.field-0 ≡ c.args.declared.now.class = search rules in
    let static : IsStaticUse c.args.access = c.in-GetStatic.is in
    on_ok_weaker c.put.result
    (λ h. adds_where (IsStaticUse c.args.access) (Is (Initialised c.args.declared.now.class)) _ _ static
    (adds_is (Initialised c.in_ok-copy-in-GetStatic.field-0) (Initialised c.args.declared.now.class) _ _
    (ap Initialised same) h)) c.put.ensures
