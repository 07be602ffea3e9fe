use Rattle.std.proofs.Common.{ℕ, List}
use Rattle.std.proofs.lemmas.Result.{err_from_is_err_and}
use Rattle.cf_structure.specs.Spelled.{two}
use Rattle.cf_judge.specs.Demands.{Demand, index_demands}
use Rattle.cf_judge.proofs.LoopLemmas.{none_done, next_fits, next_done, next_stops, all_done}
use Rattle.cf_judge.proofs.class_file.judge_interfaces.Goals as goal

abbrev one : List ℕ → ℕ → ℕ → List Demand
one earlier = index_demands

pub loop-index-init : goal.loop-index-init
loop-index-init c = none_done c.args.pool.now one two c.args.start c.args.interfaces.now

pub judge_index-requires-clause-fits : goal.judge_index-requires-clause-fits
judge_index-requires-clause-fits c =
    let l = c.loop-index in
    next_fits c.args.pool.now one two c.args.start c.args.interfaces.now l.index-index l.place c.loop-index-test.true
    l.invariant 0 _ c.requires.fits

pub returns-in_err-place : goal.returns-in_err-place
returns-in_err-place c =
    let l = c.loop-index in
    let p = err_from_is_err_and c.from_residual.result c.from_residual.ensures.1 in
    rw (p.1, p.2)
    (next_stops c.args.pool.now one two c.args.start c.args.interfaces.now l.index-index l.place c.loop-index-test.true
    l.invariant _ c.in_err-place.field-0.0 c.in_err-place.ensures)

pub loop-index-preserved : goal.loop-index-preserved
loop-index-preserved c =
    let l = c.loop-index in
    next_done c.args.pool.now one two c.args.start c.args.interfaces.now l.index-index l.place c.loop-index-test.true
    l.invariant _ c.in_ok-place.place c.in_ok-place.ensures

pub returns : goal.returns
returns c =
    let l = c.loop-index in
    all_done c.args.pool.now one two c.args.start c.args.interfaces.now l.index-index l.place c.loop-index-test.false
    l.invariant
