use Rattle.ck_shapes.proofs.PlaceLemmas.{first_more}
use Rattle.ck_shapes.proofs.places.places_of.Goals as goal

pub loop-place-preserved : goal.loop-place-preserved
loop-place-preserved c =
    first_more c.args.steps.now c.loop-place.place c.from.result c.index-steps-place.result c.loop-place.places.items
    c.note.new.places.items c.loop-place-test.true c.index-steps-place.is c.from.ensures c.loop-place.invariant
    c.in_ok-note.ensures
