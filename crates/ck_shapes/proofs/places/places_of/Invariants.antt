use Rattle.ck_shapes.proofs.PlaceLemmas.{AreFirst}
use Rattle.ck_shapes.proofs.places.places_of.Given as goal

abbrev pub invariant-loop-place : goal.invariant-loop-place
invariant-loop-place l = AreFirst l.steps l.place l.places.items
