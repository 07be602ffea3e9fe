-- The types are those that stand in inputs.
use Rattle.std.proofs.Common.{List, subst, rules}
use Rattle.std.proofs.lemmas.Result.{on_ok_weaker}
use Rattle.cf_class.specs.declared.class_file.ClassFile.{ClassFile}
use Rattle.jv_base.specs.declared.value.Ty.{Ty}
use Rattle.bd_core.specs.Calls.Adds.{Adds, Each}
use Rattle.hi_inputs.specs.Types.{AreInputTypes}
use Rattle.bd_core.proofs.EntryLemmas.{OfType, OfObject, input_gift}
use Rattle.bd_core.proofs.entry.put_inputs.Goals as goal

pub returns : goal.returns
returns c =
    let classes = c.args.loaded.now.classes in
    let j = c.args.job.now in
    let types = c.in_ok-types.types in
    let are : AreInputTypes classes j.entry j.depth types =
    subst (λ (l : List ClassFile). AreInputTypes l j.entry j.depth types) c.classes.ensures
    c.in_ok-types.ensures.value in
    let first : Adds (Each types OfType) c.args.out.now c.put_elements.new.out =
    subst (λ (l : List Ty). Adds (Each l OfType) c.args.out.now c.put_elements.new.out) c.as_slice.ensures
    (search rules) in
    on_ok_weaker c.put_objects.result
    (λ h. input_gift classes j types are c.args.out.now c.put_elements.new.out c.put_objects.new.out first
    (subst (λ (l : List Ty). Adds (Each l (OfObject classes)) c.put_elements.new.out c.put_objects.new.out)
    c.as_slice-2.ensures h)) c.put_objects.ensures
