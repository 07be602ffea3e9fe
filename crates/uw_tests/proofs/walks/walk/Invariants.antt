use Rattle.std.proofs.Common.{ℕ}
use Rattle.uw_keys.specs.Keys.{IsKeyOf, AreWithin}
use Rattle.uw_tests.proofs.walks.walk.Given as goal

abbrev pub invariant-loop-to : goal.invariant-loop-to
invariant-loop-to l = record {
  of : IsKeyOf l.intervals l.key;
  within : AreWithin (λ (t : ℕ). l.limit) l.intervals l.key.counters;
}
