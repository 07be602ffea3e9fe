-- A descriptor is parameters in parentheses, and a result.
use Rattle.std.proofs.Common.{◌≡◌, Option, Some, None, map, arith}
use Rattle.std.specs.Prelude.{IfSome}
use Rattle.std.proofs.lemmas.Str.Pattern.{strip_prefix_char}
use Rattle.jv_base.specs.Descriptor.{FieldType, IsFieldType, result_text}
use Rattle.jv_base.specs.Types.{field_of}
use Rattle.jv_base.proofs.DescriptorLemmas.{method_refused, no_method_first, no_method_result}
use Rattle.jv_base.proofs.types.descriptor_in.Goals as goal

pub returns-in_default-clause-none : goal.returns-in_default-clause-none
returns-in_default-clause-none c =
    no_method_first c.args.text.now (strip_prefix_char 40 c.args.text.now None c.in_default.ensures.cases (omega arith))

pub returns-in_default-strip_prefix-clause-none : goal.returns-in_default-strip_prefix-clause-none
returns-in_default-strip_prefix-clause-none c =
    let opened = c.in-Some.parameters in
    let params = c.in_ok-params in
    let is = strip_prefix_char 40 c.args.text.now (Some opened) c.in-Some.ensures.cases (omega arith) in
    let other = strip_prefix_char 41 params.rest.now None c.in_default-strip_prefix.ensures.cases (omega arith) in
    method_refused c.args.text.now opened.now params.rest.now is
    (map field_of params.params, params.ensures.valid, params.ensures.parts) params.ensures.all other

pub returns-in-None-clause-none : goal.returns-in-None-clause-none
returns-in-None-clause-none c =
    let opened = c.in-Some.parameters in
    let params = c.in_ok-params in
    let closed = c.in-Some-strip_prefix in
    let is = strip_prefix_char 40 c.args.text.now (Some opened) c.in-Some.ensures.cases (omega arith) in
    let at = strip_prefix_char 41 params.rest.now (Some closed.returned) closed.ensures.cases (omega arith) in
    let none : (r : Option FieldType) → IfSome r IsFieldType → closed.returned.now ≡ result_text r → ⊥ =
    rw c.in-None.is at c.in_ok-result.ensures.none in
    no_method_result c.args.text.now opened.now params.rest.now closed.returned.now is
    (map field_of params.params, params.ensures.valid, params.ensures.parts) params.ensures.all at none
