-- The fields of the class that is found.
use Rattle.std.proofs.Common.{◌≡◌, List, Some, sym, ◌∙◌, subst, rules}
use Rattle.std.proofs.lemmas.Option.{same_Some}
use Rattle.std.proofs.lemmas.Result.{on_ok_weaker}
use Rattle.std.specs.Prelude.{OnOk}
use Rattle.cf_class.specs.declared.member.Member.{Member}
use Rattle.cf_class.specs.declared.class_file.ClassFile.{ClassFile}
use Rattle.hi_tree.specs.Classes.{class_in}
use Rattle.hi_inputs.specs.Calls.Flat.{AddsTypes}
use Rattle.hi_inputs.specs.Calls.Below.{IsOfFields, DeclaresType}
use Rattle.hi_inputs.proofs.AddLemmas.{adds_same}
use Rattle.hi_inputs.proofs.fields.put_declared.Goals as goal

pub returns-in-Some : goal.returns-in-Some
returns-in-Some c =
    let file : ClassFile = c.in-Some.class.now in
    let some : class_in c.args.classes.now c.args.class.now ≡ Some file = search rules in
    on_ok_weaker c.put_fields.result
    (adds_same (IsOfFields file.fields) (DeclaresType c.args.classes.now c.args.class.now) c.args.out.now
    c.put_fields.new.out
    (λ t. (
      λ h. (file, some, h),
      λ h. subst (λ (f : ClassFile). IsOfFields f.fields t) (same_Some h.0 file (sym h.1 ∙ some)) h.2,
    ))) (subst (λ (fs : List Member). OnOk c.put_fields.result
    (AddsTypes (IsOfFields fs) c.args.out.now c.put_fields.new.out)) c.as_slice.ensures c.put_fields.ensures)
