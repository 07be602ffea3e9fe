use Rattle.std.proofs.Common.{map, []}
use Rattle.cf_structure.specs.Spelled.{member_text}
use Rattle.cf_structure.specs.Views.{member_of, file_of}
use Rattle.cf_bodies.specs.Places.{method_codes, methods_start}
use Rattle.cf_bodies.specs.Calls.Views.{placed_of}
use Rattle.cf_bodies.proofs.PlaceLemmas.{AreFound}
use Rattle.cf_bodies.proofs.place.codes_of.Given as goal

abbrev pub invariant-loop-method : goal.invariant-loop-method
invariant-loop-method l =
    AreFound member_of method_codes member_text (methods_start (file_of l.structure)) [] l.structure.class.methods
    l.method-index l.place (map placed_of l.found)
