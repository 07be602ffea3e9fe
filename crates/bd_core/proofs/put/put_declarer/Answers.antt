-- One member, where there is one.
use Rattle.std.proofs.Common.{sym, subst}
use Rattle.std.specs.Prelude.{OnOk}
use Rattle.std.proofs.lemmas.Result.{on_ok_weaker}
use Rattle.bd_core.specs.declared.member.Member.TheVariants.{Known}
use Rattle.jv_base.specs.declared.method.MethodId.{MethodId}
use Rattle.bd_core.specs.declared.member.Member.{Member}
use Rattle.bd_core.specs.Calls.Adds.{Adds, Is, OfSome}
use Rattle.bd_core.proofs.AddsLemmas.{adds_some}
use Rattle.bd_core.proofs.put.put_declarer.Goals as goal

pub returns-in-Some : goal.returns-in-Some
returns-in-Some c =
    let rule : MethodId → Member → Type 0 = λ m. Is (Known m.class) in
    subst (λ o. OnOk c.put.result (Adds (OfSome o rule) c.args.out.now c.put.new.out)) (sym c.in-Some.is)
    (on_ok_weaker c.put.result (adds_some c.in-Some.method rule _ _) c.put.ensures)
