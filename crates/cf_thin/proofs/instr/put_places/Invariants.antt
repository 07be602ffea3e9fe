-- The places behind the first so far.
use Rattle.std.proofs.Common.{◌≡◌, ◌++◌, replicate, None}
use Rattle.cf_thin.proofs.instr.put_places.Given as goal

abbrev pub invariant-loop : goal.invariant-loop
invariant-loop l = l.places ≡ l.initial.places ++ replicate l.counter None
