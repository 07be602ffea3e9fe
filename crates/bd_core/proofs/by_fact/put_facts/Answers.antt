-- The facts that were given.
use Rattle.std.proofs.Common.{◌≡◌, subst, rules}
use Rattle.std.proofs.lemmas.Result.{on_ok_weaker}
use Rattle.bd_core.specs.Loads.{given}
use Rattle.std.proofs.Common.{Some}
use Rattle.bd_core.specs.Rules.{FromFact}
use Rattle.bd_core.specs.Calls.Adds.{Adds, Each}
use Rattle.bd_core.proofs.FactLemmas.{facts_gift}
use Rattle.bd_core.proofs.by_fact.put_facts.Goals as goal

pub returns-in-Some : goal.returns-in-Some
returns-in-Some c =
    let g = given c.args.loaded.now in
    let m = c.args.method.now in
    let e : g.facts m ≡ Some c.in-Some.facts.now = search rules in
    on_ok_weaker c.put_each.result
    (λ h. facts_gift g c.args.out.now c.put_each.new.out m c.in-Some.facts.now e
    (subst (λ l. Adds (Each l (FromFact g m)) c.args.out.now c.put_each.new.out) c.as_slice.ensures h))
    c.put_each.ensures
