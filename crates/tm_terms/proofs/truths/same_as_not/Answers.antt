-- Not of Not.
use Rattle.std.proofs.Common.{ap, ◌∙◌, Some}
use Rattle.tm_terms.proofs.TruthRules.{not_not}
use Rattle.tm_terms.proofs.truths.same_as_not.Goals as goal

pub returns-in-Not : goal.returns-in-Not
returns-in-Not c =
    not_not c.args.bank.now c.args.a c.in-Not.x c.requires c.laws.ensures.terms (c.op.ensures ∙ ap Some c.in-Not.is)
