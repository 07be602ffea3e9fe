use Rattle.std.proofs.lemmas.Result.{err_from_is_err_and}
use Rattle.cf_structure.specs.Views.{file_of}
use Rattle.cf_judge.specs.Demands.{demands}
use Rattle.cf_judge.specs.Judged.{IsJudged, IsJudgedFault}
use Rattle.cf_judge.specs.Calls.Tells.{IsFirstBroken}
use Rattle.cf_judge.proofs.JudgedLemmas.{named, judged, judged_fault, not_judged}
use Rattle.cf_judge.proofs.class_file.judge.Goals as goal

pub returns-in_err-judge_file-clause-fault : goal.returns-in_err-judge_file-clause-fault
returns-in_err-judge_file-clause-fault c =
    let r = c.from_residual-in_err-judge_file in
    let p = err_from_is_err_and r.result r.ensures.1 in
    let file = file_of c.args.structure.now in
    rw (p.1, p.2)
    (named (IsFirstBroken file.pool (demands file)) (IsJudgedFault file) (judged_fault file)
    c.in_err-judge_file.field-0.0
    c.in_err-judge_file.ensures)

pub returns-in_err-judge_file-clause-outside : goal.returns-in_err-judge_file-clause-outside
returns-in_err-judge_file-clause-outside c =
    let r = c.from_residual-in_err-judge_file in
    let p = err_from_is_err_and r.result r.ensures.1 in
    let file = file_of c.args.structure.now in
    rw (p.1, p.2)
    (named (IsFirstBroken file.pool (demands file)) (λ _. IsJudged file → ⊥) (not_judged file)
    c.in_err-judge_file.field-0.0 c.in_err-judge_file.ensures)

pub returns : goal.returns
returns c =
    let texts = rw c.as_slice.ensures at c.in_ok-texts.ensures in
    record {
      found = judged (file_of c.args.structure.now) c.in_ok-judge_file.ensures.1;
      texts = texts;
      fault = tt;
      outside = tt;
    }
