use Rattle.std.proofs.Common.{ℕ, List}
use Rattle.std.proofs.lemmas.Result.{err_from_is_err_and}
use Rattle.cf_structure.specs.declared.code.SkippedPart.{SkippedPart}
use Rattle.cf_structure.specs.Raw.{RawSkipped}
use Rattle.cf_structure.specs.Spelled.{skipped_text}
use Rattle.cf_structure.specs.Views.{skipped_of}
use Rattle.cf_judge.specs.Demands.{Demand, skipped_demands}
use Rattle.jv_list.proofs.EachLemmas.{one_of, text_of}
use Rattle.cf_judge.proofs.LoopLemmas.{none_done, next_fits, next_done, next_stops, all_done}
use Rattle.cf_judge.proofs.LoopLemmas.{mapped_done, mapped_end, mapped_stops}
use Rattle.cf_judge.proofs.attribute.judge_skipped_list.Goals as goal

abbrev each : List RawSkipped → ℕ → RawSkipped → List Demand
each earlier = skipped_demands

abbrev one : List SkippedPart → ℕ → SkippedPart → List Demand
one = one_of skipped_of each

abbrev text : SkippedPart → List ℕ
text = text_of skipped_of skipped_text

pub loop-attribute-init : goal.loop-attribute-init
loop-attribute-init c = none_done c.args.pool.now one text c.args.start c.args.attributes.now

pub judge_skipped-requires-clause-fits : goal.judge_skipped-requires-clause-fits
judge_skipped-requires-clause-fits c =
    let l = c.loop-attribute in
    next_fits c.args.pool.now one text c.args.start c.args.attributes.now l.attribute-index l.place
    c.loop-attribute-test.true l.invariant _ _
    (rw (← mapped_end skipped_of c.args.pool.now each skipped_text c.args.start c.args.attributes.now) c.requires.fits)

pub returns-in_err-place : goal.returns-in_err-place
returns-in_err-place c =
    let l = c.loop-attribute in
    let p = err_from_is_err_and c.from_residual.result c.from_residual.ensures.1 in
    let stop = next_stops c.args.pool.now one text c.args.start c.args.attributes.now l.attribute-index l.place
    c.loop-attribute-test.true l.invariant _ c.in_err-place.field-0.0 c.in_err-place.ensures in
    rw (p.1, p.2)
    (mapped_stops skipped_of c.args.pool.now each skipped_text c.args.start c.args.attributes.now
    c.in_err-place.field-0.0 stop)

pub loop-attribute-preserved : goal.loop-attribute-preserved
loop-attribute-preserved c =
    let l = c.loop-attribute in
    next_done c.args.pool.now one text c.args.start c.args.attributes.now l.attribute-index l.place
    c.loop-attribute-test.true l.invariant _ c.in_ok-place.place c.in_ok-place.ensures

pub returns : goal.returns
returns c =
    let l = c.loop-attribute in
    mapped_done skipped_of c.args.pool.now each skipped_text c.args.start c.args.attributes.now l.place
    (all_done c.args.pool.now one text c.args.start c.args.attributes.now l.attribute-index l.place
    c.loop-attribute-test.false l.invariant)
