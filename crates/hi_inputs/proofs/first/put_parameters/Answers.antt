-- A descriptor has its parameters in one way.
use Rattle.std.proofs.Common.{List, Contains, map, sym, ◌∙◌, subst}
use Rattle.std.proofs.lemmas.Result.{on_ok_weaker}
use Rattle.jv_base.specs.Descriptor.{MethodType}
use Rattle.std.specs.Prelude.{OnOk}
use Rattle.jv_base.specs.declared.value.Ty.{Ty}
use Rattle.jv_base.specs.Types.{field_of, method_of}
use Rattle.hi_inputs.specs.Calls.Flat.{AddsTypes}
use Rattle.hi_inputs.specs.Calls.First.{IsParameter}
use Rattle.hi_inputs.proofs.AddLemmas.{adds_same}
use Rattle.hi_inputs.proofs.first.put_parameters.Goals as goal

pub returns-in-Ok : goal.returns-in-Ok
returns-in-Ok c =
    let m : MethodType = method_of c.in-Ok.desc in
    let found = c.in-Ok.ensures.found in
    on_ok_weaker c.put_types.result
    (adds_same (Contains m.parameters) (IsParameter c.args.entry.now) c.args.out.now c.put_types.new.out
    (λ t. (
      λ h. record { method = m; form = found.0; text = found.1; there = h },
      λ p.
          subst (λ (n : MethodType). Contains n.parameters t)
          (c.one_form.ensures.method p.method m p.form found.0 (sym p.text ∙ found.1)) p.there,
    ))) (subst (λ (ts : List Ty). OnOk c.put_types.result
    (AddsTypes (Contains (map field_of ts)) c.args.out.now c.put_types.new.out)) c.as_slice.ensures
    c.put_types.ensures)
