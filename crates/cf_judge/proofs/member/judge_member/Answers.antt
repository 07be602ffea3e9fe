use Rattle.std.proofs.Common.{◌+◌, refl}
use Rattle.std.proofs.lemmas.Result.{err_from_is_err_and}
use Rattle.cf_structure.specs.Views.{member_of}
use Rattle.cf_judge.proofs.PartLemmas.{flags_refused, member_tells}
use Rattle.cf_judge.proofs.member.judge_member.Goals as goal

pub returns-in_err-judge_flags : goal.returns-in_err-judge_flags
returns-in_err-judge_flags c = λ earlier second.
    let p = err_from_is_err_and c.from_residual.result c.from_residual.ensures.1 in
    let m = member_of c.args.member.now in
    rw (p.1, p.2)
    (flags_refused c.args.pool.now c.args.kind c.args.place m earlier c.in_err-judge_flags.field-0.0
    (c.in_err-judge_flags.ensures c.args.pool.now earlier second))

pub returns : goal.returns
returns c = λ earlier second.
    let ok = c.in_ok-judge_flags.ensures c.args.pool.now earlier second in
    member_tells c.args.pool.now c.args.kind c.args.place (member_of c.args.member.now) earlier (c.args.place + 2)
    c.judge_named.result (refl, ok.1) c.judge_named.ensures
