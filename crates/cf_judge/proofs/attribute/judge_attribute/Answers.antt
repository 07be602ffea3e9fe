use Rattle.std.proofs.lemmas.Result.{err_from_is_err_and}
use Rattle.cf_structure.specs.Views.{attribute_of}
use Rattle.cf_judge.proofs.PartLemmas.{name_refused, attribute_tells}
use Rattle.cf_judge.proofs.attribute.judge_attribute.Goals as goal

pub returns-in_err-next : goal.returns-in_err-next
returns-in_err-next c =
    let p = err_from_is_err_and c.from_residual.result c.from_residual.ensures.1 in
    rw (p.1, p.2)
    (name_refused c.args.pool.now c.args.desc c.args.place (attribute_of c.args.attribute.now) c.in_err-next.field-0.0
    c.in_err-next.ensures)

pub returns : goal.returns
returns c =
    attribute_tells c.args.pool.now c.args.desc c.args.place (attribute_of c.args.attribute.now) c.in_ok-next.next
    c.judge_body.result c.in_ok-next.ensures c.judge_body.ensures
