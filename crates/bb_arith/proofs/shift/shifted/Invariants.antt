-- The word moved by the lower bits of the distance so far.
use Rattle.std.proofs.Common.{◌≡◌, ◌<◌, ◌≤◌, ◌*◌, ◌^◌, ◌-◌, take}
use Rattle.bb_gates.specs.Growth.{Adds}
use Rattle.bb_arith.specs.Words.{number_of, IsWordGate}
use Rattle.bb_arith.proofs.ShiftLemmas.{shifted_number}
use Rattle.bb_arith.proofs.shift.shifted.Given as goal

abbrev pub invariant-loop-places : goal.invariant-loop-places
invariant-loop-places g l = record {
  power : l.places ≡ 2 ^ l.i;
  below : l.i < l.places;
  within : l.places ≤ g.row.W;
  gate : IsWordGate l.fn.formula l.formula l.shifted
      (shifted_number l.down g.row.W l.fill l.word (λ w. number_of w (take l.i l.distance)));
  size : Adds (l.i * g.row.W) (l.i * (4 * g.row.W)) l.fn.formula l.formula;
}

abbrev pub decreases-loop-places : goal.decreases-loop-places
decreases-loop-places g l = g.row.W - l.places
