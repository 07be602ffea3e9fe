-- Both, where there is a method.
use Rattle.std.proofs.Common.{◌≡◌, sym, ap, subst, rules}
use Rattle.std.specs.Prelude.{OnOk}
use Rattle.std.proofs.lemmas.Result.{on_ok_weaker}
use Rattle.bd_core.specs.declared.member.Member.TheVariants.{Method, Initialised}
use Rattle.bd_core.specs.Calls.Adds.{Adds, Is, OfSome}
use Rattle.bd_core.specs.Calls.Gives.{IsReachedGift}
use Rattle.bd_core.proofs.AddsLemmas.{adds_some, adds_both, adds_is}
use Rattle.bd_core.proofs.by_fact.put_reached.Goals as goal

pub returns-in_ok-put-in-Some : goal.returns-in_ok-put-in-Some
returns-in_ok-put-in-Some c =
    let m = c.in-Some.method in
    let same : c.in_ok-copy-in-Some.field-0 ≡ m.class = search rules in
    subst (λ o. OnOk c.put-in-Some.result (Adds (OfSome o IsReachedGift) c.args.out.now c.put-in-Some.new.out))
    (sym c.in-Some.is)
    (on_ok_weaker c.put-in-Some.result
    (λ h. adds_some m IsReachedGift _ _
    (adds_both (Is (Initialised m.class)) (Is (Method m)) _ _ _
    (adds_is (Initialised c.in_ok-copy-in-Some.field-0) (Initialised m.class) _ _ (ap Initialised same)
    (search rules)) h))
    c.put-in-Some.ensures)
