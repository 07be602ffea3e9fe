use Rattle.std.proofs.lemmas.Result.{err_from_is_err_and}
use Rattle.cf_structure.specs.Views.{code_of}
use Rattle.cf_judge.proofs.PartLemmas.{rows_refused, code_tells}
use Rattle.cf_judge.proofs.attribute.judge_code.Goals as goal

pub returns-in_err-next : goal.returns-in_err-next
returns-in_err-next c =
    let p = err_from_is_err_and c.from_residual.result c.from_residual.ensures.1 in
    let refused = rw c.as_slice.ensures at c.in_err-next.ensures in
    rw (p.1, p.2)
    (rows_refused c.args.pool.now c.args.place (code_of c.args.code.now) c.in_err-next.field-0.0 refused)

pub returns : goal.returns
returns c =
    let ok = rw c.as_slice.ensures at c.in_ok-next.ensures in
    let others = rw c.as_slice-2.ensures at c.judge_skipped_list.ensures in
    code_tells c.args.pool.now c.args.place (code_of c.args.code.now) c.in_ok-next.next c.judge_skipped_list.result ok
    others
