use Rattle.std.proofs.lemmas.Result.{err_from_is_err_and}
use Rattle.cf_structure.specs.Views.{file_of}
use Rattle.cf_judge.proofs.ClassLemmas.{entries_refused, file_tells}
use Rattle.cf_judge.proofs.class_file.judge_file.Goals as goal

pub returns-in_err-place : goal.returns-in_err-place
returns-in_err-place c =
    let p = err_from_is_err_and c.from_residual.result c.from_residual.ensures.1 in
    let refused = rw c.as_slice-pool.ensures at c.in_err-place.ensures in
    rw (p.1, p.2) (entries_refused (file_of c.args.structure.now) c.in_err-place.field-0.0 refused)

pub returns : goal.returns
returns c =
    let ok = rw c.as_slice-pool.ensures at c.in_ok-place.ensures in
    let class = rw c.as_slice-pool.ensures at c.judge_class.ensures in
    file_tells (file_of c.args.structure.now) c.in_ok-place.place c.judge_class.result ok class
