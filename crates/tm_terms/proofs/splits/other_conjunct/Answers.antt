-- The other part.
use Rattle.std.proofs.Common.{◌≡◌, ap, ◌∙◌, Some, rules, subst}
use Rattle.tm_terms.specs.declared.op.TermId.{TermId}
use Rattle.tm_terms.specs.Rules.{IsBoth}
use Rattle.tm_terms.proofs.SplitRules.{both_parts, parts_both}
use Rattle.tm_terms.proofs.splits.other_conjunct.Goals as goal

pub returns-in-And : goal.returns-in-And
returns-in-And c =
    let same : c.in-And.x ≡ c.args.g = search rules in
    subst (λ (x : TermId). IsBoth c.args.bank.now c.args.a x c.in-And.y) same
    (both_parts c.args.bank.now c.laws.ensures.terms c.args.a c.in-And.x c.in-And.y
    (c.op.ensures ∙ ap Some c.in-And.is))

pub returns-in-And-2 : goal.returns-in-And-2
returns-in-And-2 c =
    let same : c.in-And-2.y ≡ c.args.g = search rules in
    subst (λ (y : TermId). IsBoth c.args.bank.now c.args.a y c.in-And-2.x) same
    (parts_both c.args.bank.now c.laws.ensures.terms c.args.a c.in-And-2.x c.in-And-2.y
    (c.op.ensures ∙ ap Some c.in-And-2.is))
