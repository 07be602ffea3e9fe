use Rattle.std.proofs.Common.{ℕ, take, length}
use Rattle.std.specs.Prelude.{Contains}
use Rattle.ck_shapes.specs.Rules.{GivenShapes, IsLed}
use Rattle.ck_shapes.specs.Calls.Search.{Stand, AreBelow, CanStand}
use Rattle.ck_shapes.proofs.search.lead_all.Given as goal

abbrev pub invariant-loop-pc : goal.invariant-loop-pc
invariant-loop-pc l = record {
  stand : Stand l.limits l.fn.known (take l.pc-index l.pcs) l.shape l.known;
  below : (all : GivenShapes) → CanStand l.limits (length l.fn.known.shapes) all → AreBelow l.fn.known.shapes all
      → ((pc : ℕ) → Contains l.pcs pc → IsLed all l.shape pc) → AreBelow l.known.shapes all;
}
