-- The fields of a class of which objects can be made.
use Rattle.std.proofs.Common.{◌≡◌, rules}
use Rattle.std.proofs.lemmas.Result.{IfOk-weaker}
use Rattle.jv_base.specs.Descriptor.{object}
use Rattle.hi_inputs.specs.Calls.Flat.{AreTypes, element_of}
use Rattle.hi_inputs.specs.Calls.Below.{IsBelowElement}
use Rattle.hi_inputs.proofs.AddLemmas.{types_same}
use Rattle.hi_inputs.proofs.BelowLemmas.{below_made}
use Rattle.hi_inputs.proofs.below.below_element.Goals as goal

pub returns-then-is_made : goal.returns-then-is_made
returns-then-is_made c =
    let is : element_of c.args.element.now ≡ object c.in-Class.name = search rules in
    IfOk-weaker c.field_types.result _ (AreTypes (IsBelowElement c.args.classes.now (element_of c.args.element.now)))
    (types_same _ (IsBelowElement c.args.classes.now (element_of c.args.element.now))
    (below_made c.args.classes.now (element_of c.args.element.now) c.in-Class.name is
    (c.is_made.ensures.0 c.if-is_made.true)))
    c.field_types.ensures
