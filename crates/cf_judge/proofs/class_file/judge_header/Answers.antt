use Rattle.std.proofs.lemmas.Result.{err_from_is_err_and}
use Rattle.cf_structure.specs.Views.{class_of}
use Rattle.cf_judge.proofs.ClassLemmas.{indices_refused, header_tells}
use Rattle.cf_judge.proofs.class_file.judge_header.Goals as goal

pub returns-in_err-next : goal.returns-in_err-next
returns-in_err-next c =
    let p = err_from_is_err_and c.from_residual.result c.from_residual.ensures.1 in
    rw (p.1, p.2)
    (indices_refused c.args.pool.now c.args.place (class_of c.args.class.now) c.in_err-next.field-0.0
    c.in_err-next.ensures)

pub returns : goal.returns
returns c =
    let behind = rw c.as_slice.ensures at c.judge_interfaces.ensures in
    header_tells c.args.pool.now c.args.place (class_of c.args.class.now) c.in_ok-next.next c.judge_interfaces.result
    c.in_ok-next.ensures behind
