use Rattle.std.proofs.Common.{◌+◌, refl, sym, ◌∙◌}
use Rattle.std.proofs.lemmas.Bool.{false≢true}
use Rattle.cf_structure.specs.Views.{member_of}
use Rattle.cf_judge.specs.Judged.{IsSecond}
use Rattle.cf_judge.proofs.FlagLemmas.{second_refused, new_kept, method_tells}
use Rattle.cf_judge.proofs.member.judge_flags.Goals as goal

pub returns-then-is_second : goal.returns-then-is_second
returns-then-is_second c = λ pool earlier second.
    rw c.fault_at.ensures
    (second_refused pool earlier c.args.place (member_of c.args.member.now) c.args.kind (second.0 c.if-is_second.true))

pub returns-in-Field : goal.returns-in-Field
returns-in-Field c = λ pool earlier second.
    let m = member_of c.args.member.now in
    let first : IsSecond pool earlier m → ⊥ = λ h. false≢true (sym c.if-is_second.false ∙ second.1 h) in
    rw c.in-Field.is (refl, new_kept pool earlier c.args.place m first)

pub returns-in-Method : goal.returns-in-Method
returns-in-Method c = λ pool earlier second.
    let m = member_of c.args.member.now in
    let first : IsSecond pool earlier m → ⊥ = λ h. false≢true (sym c.if-is_second.false ∙ second.1 h) in
    rw c.in-Method.is
    (method_tells pool earlier c.args.place m (c.args.place + 2) c.judge_code_rule.result first
    (c.judge_code_rule.ensures pool))
