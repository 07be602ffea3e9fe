use Rattle.std.proofs.lemmas.Result.{err_from_is_err_and}
use Rattle.cf_structure.specs.Spelled.{row_text}
use Rattle.cf_judge.specs.Demands.{row_demands}
use Rattle.cf_judge.proofs.LoopLemmas.{none_done, next_fits, next_done, next_stops, all_done}
use Rattle.cf_judge.proofs.attribute.judge_rows.Goals as goal

pub loop-row-init : goal.loop-row-init
loop-row-init c = none_done c.args.pool.now (λ earlier. row_demands) row_text c.args.start c.args.rows.now

pub judge_row-requires-clause-fits : goal.judge_row-requires-clause-fits
judge_row-requires-clause-fits c =
    next_fits c.args.pool.now (λ earlier. row_demands) row_text c.args.start c.args.rows.now c.loop-row.row-index
    c.loop-row.place
    c.loop-row-test.true c.loop-row.invariant (record { start = 0; end = 0; handler = 0; catch_type = 0 }) _
    c.requires.fits

pub returns-in_err-place : goal.returns-in_err-place
returns-in_err-place c =
    let p = err_from_is_err_and c.from_residual.result c.from_residual.ensures.1 in
    rw (p.1, p.2)
    (next_stops c.args.pool.now (λ earlier. row_demands) row_text c.args.start c.args.rows.now c.loop-row.row-index
    c.loop-row.place
    c.loop-row-test.true c.loop-row.invariant _ c.in_err-place.field-0.0 c.in_err-place.ensures)

pub loop-row-preserved : goal.loop-row-preserved
loop-row-preserved c =
    next_done c.args.pool.now (λ earlier. row_demands) row_text c.args.start c.args.rows.now c.loop-row.row-index
    c.loop-row.place
    c.loop-row-test.true c.loop-row.invariant _ c.in_ok-place.place c.in_ok-place.ensures

pub returns : goal.returns
returns c =
    all_done c.args.pool.now (λ earlier. row_demands) row_text c.args.start c.args.rows.now c.loop-row.row-index
    c.loop-row.place
    c.loop-row-test.false c.loop-row.invariant
