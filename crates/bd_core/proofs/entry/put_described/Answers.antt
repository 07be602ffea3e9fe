-- The descriptor is the one of its text, or there is none.
use Rattle.std.proofs.Common.{◌≡◌, rules}
use Rattle.std.proofs.lemmas.Result.{on_ok_weaker}
use Rattle.jv_base.specs.Descriptor.{IsMethodType, IsMethodDescriptor, method_text}
use Rattle.jv_base.specs.Types.{method_of}
use Rattle.bd_core.proofs.EntryLemmas.{described_gift, nothing_described}
use Rattle.bd_core.proofs.entry.put_described.Goals as goal

pub returns-in-Ok : goal.returns-in-Ok
returns-in-Ok c =
    let d = c.in-Ok.desc in
    let form : IsMethodType (method_of d) = search rules in
    let text : c.args.desc.now ≡ method_text (method_of d) = search rules in
    on_ok_weaker c.put_desc.result
    (described_gift d c.one_form.ensures c.args.desc.now form text c.args.out.now c.put_desc.new.out) c.put_desc.ensures

pub returns-in-Err-Bad : goal.returns-in-Err-Bad
returns-in-Err-Bad c =
    let none : IsMethodDescriptor c.args.desc.now → ⊥ = search rules in
    nothing_described c.args.desc.now c.args.out.now none
