-- All three, where there is a field.
use Rattle.std.proofs.Common.{sym, subst, rules}
use Rattle.std.specs.Prelude.{OnOk}
use Rattle.std.proofs.lemmas.Result.{on_ok_weaker}
use Rattle.bd_core.specs.declared.member.Member.TheVariants.{Known}
use Rattle.bd_core.specs.Loads.{given}
use Rattle.std.proofs.Common.{◌⊎◌}
use Rattle.bd_core.specs.Calls.Adds.{Adds, Is, OfSome}
use Rattle.bd_core.specs.Calls.Gives.{IsUseGift, IsAccessGift, IsFieldGift}
use Rattle.bd_core.proofs.AddsLemmas.{adds_some, adds_both}
use Rattle.bd_core.proofs.by_fact.put_used.Goals as goal

pub returns-in_ok-put_access-in-Some : goal.returns-in_ok-put_access-in-Some
returns-in_ok-put_access-in-Some c =
    let g = given c.args.loaded.now in
    let f = c.in-Some.field in
    let a = c.args.access in
    subst (λ o. OnOk c.put.result (Adds (OfSome o (IsFieldGift g a)) c.args.out.now c.put.new.out)) (sym c.in-Some.is)
    (on_ok_weaker c.put.result
    (λ h. adds_some f (IsFieldGift g a) _ _
    (adds_both (λ x. IsUseGift a f x ⊎ IsAccessGift g a f x) (Is (Known f.class)) c.args.out.now c.put_access.new.out
    c.put.new.out
    (adds_both (IsUseGift a f) (IsAccessGift g a f) c.args.out.now c.put_use.new.out c.put_access.new.out
    (search rules) (search rules)) h)) c.put.ensures)
