use Rattle.std.proofs.Common.{refl, sym, ◌∙◌, map}
use Rattle.std.proofs.lemmas.Bool.{false≢true}
use Rattle.cf_structure.specs.Views.{attribute_of}
use Rattle.cf_judge.specs.Demands.{codes_in}
use Rattle.cf_judge.specs.Judged.{BreaksCodeRule}
use Rattle.cf_judge.proofs.FlagLemmas.{code_refused, code_kept}
use Rattle.cf_judge.proofs.member.judge_code_rule.Goals as goal

pub returns-then-breaks_code_rule : goal.returns-then-breaks_code_rule
returns-then-breaks_code_rule c = λ pool.
    let ways = rw (c.codes_in.ensures, c.as_slice.ensures) at c.breaks_code_rule.ensures in
    rw c.fault_at.ensures
    (code_refused pool c.args.place c.args.member.now.flags _ (ways.0 c.if-breaks_code_rule.true))

pub returns : goal.returns
returns c = λ pool.
    let ways = rw (c.codes_in.ensures, c.as_slice.ensures) at c.breaks_code_rule.ensures in
    let codes = codes_in (map attribute_of c.args.member.now.attributes) in
    let keeps : BreaksCodeRule c.args.member.now.flags codes → ⊥ =
    λ h. false≢true (sym c.if-breaks_code_rule.false ∙ ways.1 h) in
    (refl, code_kept pool c.args.place c.args.member.now.flags codes keeps)
