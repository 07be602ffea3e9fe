-- What is no array has fields alone below.
use Rattle.std.proofs.Common.{◌≡◌, rules}
use Rattle.std.proofs.lemmas.Result.{IfOk-weaker}
use Rattle.hi_inputs.specs.Calls.Flat.{AreTypes, field_of_flat}
use Rattle.hi_inputs.specs.Calls.Below.{IsBelow}
use Rattle.hi_inputs.proofs.AddLemmas.{types_same}
use Rattle.hi_inputs.proofs.BelowLemmas.{below_flat}
use Rattle.hi_inputs.proofs.below.types_below.Goals as goal

pub returns-then-ty-eq0 : goal.returns-then-ty-eq0
returns-then-ty-eq0 c =
    let none : c.args.ty.now.dimensions ≡ 0 = search rules in
    IfOk-weaker c.below_element.result _ (AreTypes (IsBelow c.args.classes.now (field_of_flat c.args.ty.now)))
    (types_same _ (IsBelow c.args.classes.now (field_of_flat c.args.ty.now))
    (below_flat c.args.classes.now (field_of_flat c.args.ty.now) none))
    c.below_element.ensures
