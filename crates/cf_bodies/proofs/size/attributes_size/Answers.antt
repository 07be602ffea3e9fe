use Rattle.std.proofs.Common.{arith}
use Rattle.cf_structure.specs.Spelled.{attribute_text}
use Rattle.cf_structure.specs.Views.{attribute_of}
use Rattle.cf_bodies.proofs.SizeLemmas.{next_fits}
use Rattle.cf_bodies.proofs.size.attributes_size.Goals as goal

pub attribute_size-size-requires : goal.attribute_size-size-requires
attribute_size-size-requires c =
    let l = c.loop-attribute in
    let fits = next_fits attribute_of attribute_text c.args.attributes.now l.attribute-index c.attribute-item.result
    c.loop-attribute-test.true
    c.attribute-item.is in
    omega (arith, fits, c.requires)

pub overflow_add-size : goal.overflow_add-size
overflow_add-size c =
    let l = c.loop-attribute in
    let fits = next_fits attribute_of attribute_text c.args.attributes.now l.attribute-index c.attribute-item.result
    c.loop-attribute-test.true
    c.attribute-item.is in
    omega (arith, fits, c.requires, l.invariant, c.attribute_size-size.ensures)
