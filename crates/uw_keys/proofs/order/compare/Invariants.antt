use Rattle.uw_keys.proofs.CompareLemmas.{AreEqualTo}
use Rattle.uw_keys.proofs.order.compare.Given as goal

abbrev pub invariant-loop-place : goal.invariant-loop-place
invariant-loop-place l = AreEqualTo l.intervals l.a.pc l.b.pc l.a.counters l.b.counters l.place
