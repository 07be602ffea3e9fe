-- The parameters, and the result, where there is one.
use Rattle.std.proofs.Common.{List, sym, subst, rules}
use Rattle.std.proofs.lemmas.Result.{on_ok_weaker}
use Rattle.jv_base.specs.declared.value.Ty.{Ty}
use Rattle.bd_core.specs.Calls.Adds.{Adds, Each, OfSome}
use Rattle.bd_core.proofs.AddsLemmas.{adds_some, adds_none}
use Rattle.bd_core.proofs.EntryLemmas.{OfType, desc_gift}
use Rattle.bd_core.proofs.entry.put_desc.Goals as goal

pub returns-in-Some : goal.returns-in-Some
returns-in-Some c =
    let d = c.args.desc.now in
    let first : Adds (Each d.params OfType) c.args.out.now c.put_elements.new.out =
    subst (λ (l : List Ty). Adds (Each l OfType) c.args.out.now c.put_elements.new.out) c.as_slice.ensures
    (search rules) in
    on_ok_weaker c.put_element.result
    (λ h. desc_gift d c.args.out.now c.put_elements.new.out c.put_element.new.out first
    (subst (λ o. Adds (OfSome o OfType) c.put_elements.new.out c.put_element.new.out) (sym c.in-Some.is)
    (adds_some c.in-Some.ty OfType _ _ h))) c.put_element.ensures

pub returns-in-None : goal.returns-in-None
returns-in-None c =
    let d = c.args.desc.now in
    let first : Adds (Each d.params OfType) c.args.out.now c.put_elements.new.out =
    subst (λ (l : List Ty). Adds (Each l OfType) c.args.out.now c.put_elements.new.out) c.as_slice.ensures
    (search rules) in
    desc_gift d c.args.out.now c.put_elements.new.out c.put_elements.new.out first
    (subst (λ o. Adds (OfSome o OfType) c.put_elements.new.out c.put_elements.new.out) (sym c.in-None.is)
    (adds_none OfType c.put_elements.new.out))
