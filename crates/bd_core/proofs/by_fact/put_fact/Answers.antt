-- What each fact gives.
use Rattle.std.proofs.Common.{◌≡◌, sym, ap, subst, rules}
use Rattle.std.specs.Prelude.{OnOk}
use Rattle.std.proofs.lemmas.Result.{on_ok_weaker}
use Rattle.bd_core.specs.Loads.{given}
use Rattle.bd_core.specs.declared.member.Member.TheVariants.{Known, Made, Initialised}
use Rattle.bd_scan.specs.declared.fact.Fact.{Fact}
use Rattle.bd_core.specs.declared.member.Member.{Member}
use Rattle.bd_core.specs.Rules.{FromFact}
use Rattle.bd_core.specs.Calls.Adds.{Adds}
use Rattle.bd_core.proofs.AddsLemmas.{adds_is}
use Rattle.bd_core.proofs.FactLemmas.{new_gift, raised_gift, literal_gift, named_gift, initialised_gift}
use Rattle.bd_core.proofs.by_fact.put_fact.Goals as goal

pub returns-in_ok-copy-in-New : goal.returns-in_ok-copy-in-New
returns-in_ok-copy-in-New c =
    let same : c.in_ok-copy-in-New.field-0 ≡ c.in-New.class = search rules in
    let rule : Fact → Member → Type 0 = FromFact (given c.args.loaded.now) c.args.method.now in
    subst (λ f. OnOk c.put.result (Adds (rule f) c.args.out.now c.put.new.out)) (sym c.in-New.is)
    (on_ok_weaker c.put.result
    (λ h. new_gift (given c.args.loaded.now) c.args.method.now c.in-New.class c.args.out.now c.put.new.out
    c.in-New.field-0
    (adds_is (Made c.in_ok-copy-in-New.field-0) (Made c.in-New.class) _ _ (ap Made same) h)) c.put.ensures)

pub returns-in_ok-copy-in-Raises : goal.returns-in_ok-copy-in-Raises
returns-in_ok-copy-in-Raises c =
    let same : c.in_ok-copy-in-Raises.field-0 ≡ c.in-Raises.class = search rules in
    let rule : Fact → Member → Type 0 = FromFact (given c.args.loaded.now) c.args.method.now in
    subst (λ f. OnOk c.put-in-Raises.result (Adds (rule f) c.args.out.now c.put-in-Raises.new.out)) (sym c.in-Raises.is)
    (on_ok_weaker c.put-in-Raises.result
    (λ h. raised_gift (given c.args.loaded.now) c.args.method.now c.in-Raises.class c.args.out.now
    c.put-in-Raises.new.out
    (adds_is (Made c.in_ok-copy-in-Raises.field-0) (Made c.in-Raises.class) _ _ (ap Made same) h))
    c.put-in-Raises.ensures)

pub returns-in_ok-copy-in-Literal : goal.returns-in_ok-copy-in-Literal
returns-in_ok-copy-in-Literal c =
    let same : c.in_ok-copy-in-Literal.field-0 ≡ c.in-Literal.class = search rules in
    let rule : Fact → Member → Type 0 = FromFact (given c.args.loaded.now) c.args.method.now in
    subst (λ f. OnOk c.put-in-Literal.result (Adds (rule f) c.args.out.now c.put-in-Literal.new.out))
    (sym c.in-Literal.is)
    (on_ok_weaker c.put-in-Literal.result
    (λ h. literal_gift (given c.args.loaded.now) c.args.method.now c.in-Literal.class c.args.out.now
    c.put-in-Literal.new.out
    (adds_is (Made c.in_ok-copy-in-Literal.field-0) (Made c.in-Literal.class) _ _ (ap Made same) h))
    c.put-in-Literal.ensures)

pub returns-in_ok-copy-in-Names : goal.returns-in_ok-copy-in-Names
returns-in_ok-copy-in-Names c =
    let same : c.in_ok-copy-in-Names.field-0 ≡ c.in-Names.class = search rules in
    let rule : Fact → Member → Type 0 = FromFact (given c.args.loaded.now) c.args.method.now in
    subst (λ f. OnOk c.put-in-Names.result (Adds (rule f) c.args.out.now c.put-in-Names.new.out)) (sym c.in-Names.is)
    (on_ok_weaker c.put-in-Names.result
    (λ h. named_gift (given c.args.loaded.now) c.args.method.now c.in-Names.class c.args.out.now c.put-in-Names.new.out
    (adds_is (Known c.in_ok-copy-in-Names.field-0) (Known c.in-Names.class) _ _ (ap Known same) h))
    c.put-in-Names.ensures)

pub returns-in_ok-copy-in-Init : goal.returns-in_ok-copy-in-Init
returns-in_ok-copy-in-Init c =
    let same : c.in_ok-copy-in-Init.field-0 ≡ c.in-Init.class = search rules in
    let rule : Fact → Member → Type 0 = FromFact (given c.args.loaded.now) c.args.method.now in
    subst (λ f. OnOk c.put-in-Init.result (Adds (rule f) c.args.out.now c.put-in-Init.new.out)) (sym c.in-Init.is)
    (on_ok_weaker c.put-in-Init.result
    (λ h. initialised_gift (given c.args.loaded.now) c.args.method.now c.in-Init.class c.args.out.now
    c.put-in-Init.new.out
    (adds_is (Initialised c.in_ok-copy-in-Init.field-0) (Initialised c.in-Init.class) _ _ (ap Initialised same) h))
    c.put-in-Init.ensures)
