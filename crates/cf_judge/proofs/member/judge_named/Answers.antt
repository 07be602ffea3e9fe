use Rattle.std.proofs.lemmas.Result.{err_from_is_err_and}
use Rattle.cf_structure.specs.Views.{member_of}
use Rattle.cf_judge.proofs.PartLemmas.{names_refused, named_tells}
use Rattle.cf_judge.proofs.member.judge_named.Goals as goal

pub returns-in_err-next : goal.returns-in_err-next
returns-in_err-next c =
    let p = err_from_is_err_and c.from_residual.result c.from_residual.ensures.1 in
    let refused = rw (c.name_form.ensures, c.desc_form.ensures) at c.in_err-next.ensures in
    rw (p.1, p.2)
    (names_refused c.args.pool.now c.args.kind c.args.place (member_of c.args.member.now) c.in_err-next.field-0.0
    refused)

pub returns : goal.returns
returns c =
    let ok = rw (c.name_form.ensures, c.desc_form.ensures) at c.in_ok-next.ensures in
    let behind = rw c.as_slice-attributes.ensures at c.judge_attributes.ensures in
    named_tells c.args.pool.now c.args.kind c.args.place (member_of c.args.member.now) c.in_ok-next.next
    c.judge_attributes.result ok behind
