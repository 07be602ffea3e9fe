use Rattle.std.proofs.Common.{◌≡◌, ◌++◌, ap, ◌∙◌, Some}
use Rattle.std.proofs.lemmas.Slice.Eq.{strip_suffix_is}
use Rattle.cf_thin.specs.ThinCode.{takes}
use Rattle.cf_thin.proofs.ShapeLemmas.{operand_decides}
use Rattle.cf_thin.proofs.shape.stack_after.Goals as goal

pub returns : goal.returns
returns c =
    let copied = c.in_ok-after.ensures in
    let parts : c.args.stack.now ≡ c.in-Some.rest.now ++ takes c.args.instr =
    strip_suffix_is operand_decides c.args.stack.now c.takes_of.result.now (Some c.in-Some.rest) c.in-Some.ensures.cases
    ∙ ap (λ t. c.in-Some.rest.now ++ t) c.takes_of.ensures in
    (c.in-Some.rest.now, parts, cc (c.in_ok-extend.ensures.ok))
