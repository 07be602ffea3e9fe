use Rattle.cf_judge.proofs.FormLemmas.{are_forms}
use Rattle.cf_judge.proofs.text.forms_of.Goals as goal

pub returns : goal.returns
returns c =
    let attribute = rw c.as_bytes.ensures.value at c.is_attribute_name.ensures in
    let unqualified = rw c.as_bytes-2.ensures.value at c.is_unqualified_name.ensures in
    are_forms c.args.name.now _ attribute unqualified c.is_any_method_name.ensures c.is_class_name.ensures
    c.is_array_descriptor.ensures c.is_field_descriptor.ensures c.is_method_descriptor.ensures
