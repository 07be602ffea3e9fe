use Rattle.std.proofs.Common.{ℕ, ◌+◌, map, ap, arith}
use Rattle.cf_structure.specs.Spelled.{attribute_text}
use Rattle.cf_structure.specs.Views.{attribute_of}
use Rattle.cf_bodies.specs.Places.{attribute_codes}
use Rattle.cf_bodies.specs.Calls.Views.{placed_of}
use Rattle.cf_bodies.proofs.PlaceLemmas.{none_found, fits_next, found_next, all_found}
use Rattle.cf_bodies.proofs.place.push_codes.Goals as goal

pub loop-attribute-init : goal.loop-attribute-init
loop-attribute-init c =
    none_found attribute_of attribute_codes attribute_text c.args.start (map placed_of c.args.found.now)
    c.args.attributes.now

pub push_code-requires : goal.push_code-requires
push_code-requires c =
    let l = c.loop-attribute in
    let fits = fits_next attribute_of attribute_codes attribute_text c.args.start (map placed_of c.args.found.now)
    c.args.attributes.now l.attribute-index l.place (map placed_of l.found) c.attribute-item.result
    c.loop-attribute-test.true c.attribute-item.is l.invariant in
    omega (arith, fits, c.requires)

pub attribute_size-place-requires : goal.attribute_size-place-requires
attribute_size-place-requires c =
    let l = c.loop-attribute in
    let fits = fits_next attribute_of attribute_codes attribute_text c.args.start (map placed_of c.args.found.now)
    c.args.attributes.now l.attribute-index l.place (map placed_of l.found) c.attribute-item.result
    c.loop-attribute-test.true c.attribute-item.is l.invariant in
    omega (arith, fits, c.requires)

pub overflow_add-place : goal.overflow_add-place
overflow_add-place c =
    let l = c.loop-attribute in
    let fits = fits_next attribute_of attribute_codes attribute_text c.args.start (map placed_of c.args.found.now)
    c.args.attributes.now l.attribute-index l.place (map placed_of l.found) c.attribute-item.result
    c.loop-attribute-test.true c.attribute-item.is l.invariant in
    omega (arith, fits, c.requires, c.attribute_size-place.ensures)

pub loop-attribute-preserved : goal.loop-attribute-preserved
loop-attribute-preserved c =
    let l = c.loop-attribute in
    found_next attribute_of attribute_codes attribute_text c.args.start (map placed_of c.args.found.now)
    c.args.attributes.now l.attribute-index l.place (map placed_of l.found) c.attribute-item.result
    c.loop-attribute-test.true c.attribute-item.is l.invariant (l.place + c.attribute_size-place.result)
    (map placed_of c.push_code.new.found)
    (ap (λ (n : ℕ). l.place + n) c.attribute_size-place.ensures) c.in_ok-push_code.ensures

pub returns : goal.returns
returns c =
    let l = c.loop-attribute in
    all_found attribute_of attribute_codes attribute_text c.args.start (map placed_of c.args.found.now)
    c.args.attributes.now l.attribute-index l.place (map placed_of l.found) c.loop-attribute-test.false l.invariant
