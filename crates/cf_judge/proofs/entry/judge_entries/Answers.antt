use Rattle.std.proofs.Common.{ℕ, List, arith}
use Rattle.std.proofs.lemmas.Result.{err_from_is_err_and}
use Rattle.cf_pool.specs.declared.entry.PoolEntry.{PoolEntry}
use Rattle.cf_pool.specs.Spelling.{entry_text}
use Rattle.cf_judge.specs.Demands.{Demand, entry_demands}
use Rattle.cf_judge.proofs.LoopLemmas.{none_done, one_fits, one_more, stops, all_done}
use Rattle.cf_judge.proofs.entry.judge_entries.Goals as goal

abbrev one : List PoolEntry → ℕ → PoolEntry → List Demand
one earlier = entry_demands

pub loop-entry-init : goal.loop-entry-init
loop-entry-init c = none_done c.args.pool.now one entry_text c.args.start c.args.pool.now

pub judge_entry-requires-clause-fits : goal.judge_entry-requires-clause-fits
judge_entry-requires-clause-fits c =
    let l = c.loop-entry in
    let fits = one_fits c.args.pool.now one entry_text c.args.start c.args.pool.now l.entry-index l.place
    c.entry-item.result c.loop-entry-test.true c.entry-item.is l.invariant in
    omega (arith, c.requires.fits, fits)

pub returns-in_err-place : goal.returns-in_err-place
returns-in_err-place c =
    let l = c.loop-entry in
    let p = err_from_is_err_and c.from_residual.result c.from_residual.ensures.1 in
    rw (p.1, p.2)
    (stops c.args.pool.now one entry_text c.args.start c.args.pool.now l.entry-index l.place c.entry-item.result
    c.loop-entry-test.true c.entry-item.is l.invariant c.in_err-place.field-0.0 c.in_err-place.ensures)

pub loop-entry-preserved : goal.loop-entry-preserved
loop-entry-preserved c =
    let l = c.loop-entry in
    one_more c.args.pool.now one entry_text c.args.start c.args.pool.now l.entry-index l.place c.entry-item.result
    c.loop-entry-test.true c.entry-item.is l.invariant c.in_ok-place.place c.in_ok-place.ensures

pub returns : goal.returns
returns c =
    let l = c.loop-entry in
    all_done c.args.pool.now one entry_text c.args.start c.args.pool.now l.entry-index l.place c.loop-entry-test.false
    l.invariant
