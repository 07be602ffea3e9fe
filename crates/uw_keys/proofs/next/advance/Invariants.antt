use Rattle.uw_keys.proofs.StepLemmas.{IsAdvanced, always}
use Rattle.uw_keys.proofs.next.advance.Given as goal

abbrev pub invariant-loop-place : goal.invariant-loop-place
invariant-loop-place l = IsAdvanced (always l.unwind) l.intervals l.from l.to l.key.counters l.place l.counters
