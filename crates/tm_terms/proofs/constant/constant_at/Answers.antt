-- The number of a constant is its value.
use Rattle.std.proofs.Common.{ap, ◌∙◌, Some}
use Rattle.tm_terms.proofs.FoldLemmas.{const-value}
use Rattle.tm_terms.proofs.constant.constant_at.Goals as goal

pub returns-in-Const-clause-found : goal.returns-in-Const-clause-found
returns-in-Const-clause-found c =
    const-value c.args.bank.now c.args.id.0 c.in-Const.field-0 c.in-Const.number c.laws.ensures.reduced
    (c.op.ensures ∙ ap Some c.in-Const.is)
