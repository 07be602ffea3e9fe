use Rattle.std.proofs.Common.{arith, [], get_or}
use Rattle.std.proofs.lemmas.List.{get_or_default}
use Rattle.cf_structure.specs.Spelled.{skipped_text}
use Rattle.cf_structure.specs.Views.{skipped_of}
use Rattle.cf_bodies.proofs.SizeLemmas.{next_fits}
use Rattle.cf_bodies.proofs.size.skipped_size.Goals as goal

pub overflow_add-size-in-loop-attribute : goal.overflow_add-size-in-loop-attribute
overflow_add-size-in-loop-attribute c =
    let xs = c.args.attributes.now in
    let l = c.loop-attribute in
    let x = get_or xs l.attribute-index (record { name = 0; content = record { ref_ptr = (0, 0); now = [] } }) in
    let fits = next_fits skipped_of skipped_text xs l.attribute-index x c.loop-attribute-test.true
    (get_or_default xs l.attribute-index _ x c.loop-attribute-test.true) in
    omega (arith, fits, c.requires, l.invariant)
