use Rattle.std.proofs.Common.{map}
use Rattle.cf_structure.specs.Spelled.{attribute_text}
use Rattle.cf_structure.specs.Views.{attribute_of}
use Rattle.cf_bodies.specs.Places.{attribute_codes}
use Rattle.cf_bodies.specs.Calls.Views.{placed_of}
use Rattle.cf_bodies.proofs.PlaceLemmas.{AreFound}
use Rattle.cf_bodies.proofs.place.push_codes.Given as goal

abbrev pub invariant-loop-attribute : goal.invariant-loop-attribute
invariant-loop-attribute l =
    AreFound attribute_of attribute_codes attribute_text l.start (map placed_of l.initial.found) l.attributes
    l.attribute-index l.place (map placed_of l.found)
