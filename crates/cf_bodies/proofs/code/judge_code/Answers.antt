use Rattle.std.proofs.Common.{◌+◌, [], ◌∷◌}
use Rattle.std.proofs.lemmas.Result.{err_from_is_err_and}
use Rattle.cf_bodies.specs.Checks.{check_at, is_code}
use Rattle.cf_bodies.proofs.TellsLemmas.{refused_front, refused_behind}
use Rattle.cf_bodies.proofs.code.judge_code.Goals as goal

pub returns-in_err-instrs : goal.returns-in_err-instrs
returns-in_err-instrs c =
    let p = err_from_is_err_and c.from_residual.result c.from_residual.ensures.1 in
    let code = c.args.code.now in
    rw (p.1, p.2)
    (refused_front c.args.pool.now (check_at (code.place + 8) (is_code code.code.now.code.now) ∷ []) _
    c.in_err-instrs.field-0.0 c.in_err-instrs.ensures)

pub returns-in_err-judge_rows : goal.returns-in_err-judge_rows
returns-in_err-judge_rows c =
    let p = err_from_is_err_and c.from_residual-in_err-judge_rows.result c.from_residual-in_err-judge_rows.ensures.1 in
    let code = c.args.code.now in
    let h = rw c.as_slice-2.ensures at (c.in_err-judge_rows.ensures c.args.pool.now) in
    rw (p.1, p.2)
    (refused_behind c.args.pool.now (check_at (code.place + 8) (is_code code.code.now.code.now) ∷ []) _
    c.in_err-judge_rows.field-0.0 c.in_ok-instrs.ensures.1 h)

pub returns : goal.returns
returns c =
    let code = c.args.code.now in
    let h = rw c.as_slice-2.ensures at (c.in_ok-judge_rows.ensures c.args.pool.now) in
    (c.in_ok-instrs.ensures.0, (c.in_ok-instrs.ensures.1.0, h.1))
