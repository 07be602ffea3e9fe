use Rattle.std.proofs.Common.{◌+◌, List, sym, subst}
use Rattle.cf_structure.specs.Views.{attribute_of}
use Rattle.cf_class.specs.declared.attribute.Attribute.{Attribute}
use Rattle.cf_class.specs.Content.{IsAttributeContent}
use Rattle.cf_class.specs.Calls.Contents.{attribute_codes}
use Rattle.cf_class.proofs.LoopLemmas.{AreTaken, none_taken, content_there, bodies_there, taken_more, made_all}
use Rattle.cf_class.proofs.LoopLemmas.{taken_left}
use Rattle.cf_class.proofs.attribute.attribute_list.Goals as goal

pub loop-part-init : goal.loop-part-init
loop-part-init c =
    rw c.in_ok-made.ensures
    (none_taken attribute_of (IsAttributeContent c.args.names.now.pool.now) c.args.parts.now attribute_codes
    c.args.bodies.now c.requires.bodies)

pub attribute_content-requires-clause-content : goal.attribute_content-requires-clause-content
attribute_content-requires-clause-content c =
    let l = c.loop-part in
    content_there attribute_of (IsAttributeContent c.args.names.now.pool.now) c.args.parts.now l.part-index
    c.part-item.result c.loop-part-test.true c.part-item.is c.requires.content

pub attribute_content-requires-clause-bodies : goal.attribute_content-requires-clause-bodies
attribute_content-requires-clause-bodies c =
    let l = c.loop-part in
    bodies_there attribute_of (IsAttributeContent c.args.names.now.pool.now) c.args.parts.now attribute_codes
    c.args.bodies.now l.part-index c.part-item.result c.loop-part-test.true c.part-item.is l.made l.bodies l.invariant

pub loop-part-preserved : goal.loop-part-preserved
loop-part-preserved c =
    let l = c.loop-part in
    let pool = c.args.names.now.pool.now in
    let next = c.attribute_content.new.bodies in
    let more = taken_more attribute_of (IsAttributeContent pool) c.args.parts.now attribute_codes c.args.bodies.now
    l.part-index c.part-item.result c.loop-part-test.true c.part-item.is l.made l.bodies l.invariant
    c.in_ok-attribute_content.field-0 next c.in_ok-attribute_content.ensures.content
    c.in_ok-attribute_content.ensures.left in
    subst
    (λ (made : List Attribute). AreTaken attribute_of (IsAttributeContent pool) c.args.parts.now attribute_codes
    c.args.bodies.now (l.part-index + 1) made next) (sym c.in_ok-add.ensures.ok) more

pub returns-clause-content : goal.returns-clause-content
returns-clause-content c =
    let l = c.loop-part in
    made_all attribute_of (IsAttributeContent c.args.names.now.pool.now) c.args.parts.now l.part-index l.made
    c.loop-part-test.false l.invariant.are_made

pub returns-clause-left : goal.returns-clause-left
returns-clause-left c =
    let l = c.loop-part in
    taken_left attribute_of (IsAttributeContent c.args.names.now.pool.now) c.args.parts.now attribute_codes
    c.args.bodies.now l.part-index l.made l.bodies c.loop-part-test.false l.invariant
