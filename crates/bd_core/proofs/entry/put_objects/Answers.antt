-- One type more.
use Rattle.std.proofs.Common.{◌≡◌, List, take, subst, rules, arith}
use Rattle.std.proofs.lemmas.List.{take_all}
use Rattle.jv_base.specs.declared.value.Ty.{Ty}
use Rattle.bd_core.specs.Calls.Adds.{Adds, Each}
use Rattle.bd_core.proofs.AddsLemmas.{each_step}
use Rattle.bd_core.proofs.EntryLemmas.{OfObject}
use Rattle.bd_core.proofs.entry.put_objects.Goals as goal

pub types-preserved : goal.types-preserved
types-preserved c =
    each_step (OfObject c.args.loaded.now.classes) c.args.types.now c.types.ty-index c.ty-item.result c.args.out.now
    c.types.out c.put_object.new.out (search rules) (search rules) c.types.invariant (search rules)

pub returns : goal.returns
returns c =
    let whole : take c.types.ty-index c.args.types.now ≡ c.args.types.now =
    take_all c.types.ty-index c.args.types.now (omega (arith, c.types-test.false)) in
    subst (λ (l : List Ty). Adds (Each l (OfObject c.args.loaded.now.classes)) c.args.out.now c.types.out) whole
    c.types.invariant
