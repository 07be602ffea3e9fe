use Rattle.std.proofs.Common.{ℕ, List, arith}
use Rattle.std.proofs.lemmas.Result.{err_from_is_err_and}
use Rattle.cf_structure.specs.declared.attribute.AttributePart.{AttributePart}
use Rattle.cf_structure.specs.Raw.{RawAttribute}
use Rattle.cf_structure.specs.Spelled.{attribute_text}
use Rattle.cf_structure.specs.Views.{attribute_of}
use Rattle.cf_judge.specs.Demands.{Demand, attribute_demands}
use Rattle.jv_list.proofs.EachLemmas.{one_of, text_of}
use Rattle.cf_judge.proofs.LoopLemmas.{none_done, one_fits, one_more, stops, all_done}
use Rattle.cf_judge.proofs.LoopLemmas.{mapped_done, mapped_end, mapped_stops}
use Rattle.cf_judge.proofs.attribute.judge_attributes.Goals as goal

abbrev each : ℕ → List RawAttribute → ℕ → RawAttribute → List Demand
each desc earlier = attribute_demands desc

abbrev one : ℕ → List AttributePart → ℕ → AttributePart → List Demand
one desc = one_of attribute_of (each desc)

abbrev text : AttributePart → List ℕ
text = text_of attribute_of attribute_text

pub loop-attribute-init : goal.loop-attribute-init
loop-attribute-init c = none_done c.args.pool.now (one c.args.desc) text c.args.start c.args.attributes.now

pub judge_attribute-requires-clause-fits : goal.judge_attribute-requires-clause-fits
judge_attribute-requires-clause-fits c =
    let l = c.loop-attribute in
    let fits = one_fits c.args.pool.now (one c.args.desc) text c.args.start c.args.attributes.now l.attribute-index
    l.place
    c.attribute-item.result c.loop-attribute-test.true c.attribute-item.is l.invariant in
    omega (
      arith,
      mapped_end attribute_of c.args.pool.now (each c.args.desc) attribute_text c.args.start c.args.attributes.now,
      c.requires.fits,
      fits,
    )

pub returns-in_err-place : goal.returns-in_err-place
returns-in_err-place c =
    let l = c.loop-attribute in
    let p = err_from_is_err_and c.from_residual.result c.from_residual.ensures.1 in
    let stop = stops c.args.pool.now (one c.args.desc) text c.args.start c.args.attributes.now l.attribute-index l.place
    c.attribute-item.result c.loop-attribute-test.true c.attribute-item.is l.invariant c.in_err-place.field-0.0
    c.in_err-place.ensures in
    rw (p.1, p.2)
    (mapped_stops attribute_of c.args.pool.now (each c.args.desc) attribute_text c.args.start c.args.attributes.now
    c.in_err-place.field-0.0 stop)

pub loop-attribute-preserved : goal.loop-attribute-preserved
loop-attribute-preserved c =
    let l = c.loop-attribute in
    one_more c.args.pool.now (one c.args.desc) text c.args.start c.args.attributes.now l.attribute-index l.place
    c.attribute-item.result c.loop-attribute-test.true c.attribute-item.is l.invariant c.in_ok-place.place
    c.in_ok-place.ensures

pub returns : goal.returns
returns c =
    let l = c.loop-attribute in
    mapped_done attribute_of c.args.pool.now (each c.args.desc) attribute_text c.args.start c.args.attributes.now
    l.place
    (all_done c.args.pool.now (one c.args.desc) text c.args.start c.args.attributes.now l.attribute-index l.place
    c.loop-attribute-test.false l.invariant)
