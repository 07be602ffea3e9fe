use Rattle.std.proofs.Common.{◌≡◌, length}
use Rattle.ck_shapes.specs.Rules.{GivenShapes, MeetsRules}
use Rattle.ck_shapes.specs.Calls.Search.{IsSound, AreBelow, measure}
use Rattle.ck_shapes.proofs.find.find_shapes.Given as goal

abbrev pub invariant-loop-pc : goal.invariant-loop-pc
invariant-loop-pc l = record {
  sound : IsSound l.flow l.known.shapes l.known.waiting;
  long : length l.known.shapes ≡ length l.places.items;
  below : (all : GivenShapes) → MeetsRules l.flow all → AreBelow l.known.shapes all;
}

abbrev pub decreases-loop-pc : goal.decreases-loop-pc
decreases-loop-pc l = measure l.flow.limits l.known
