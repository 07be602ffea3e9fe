use Rattle.std.proofs.Common.{◌≡◌, replicate, None}
use Rattle.ck_shapes.proofs.find.nothing_known.Given as goal

abbrev pub invariant-loop : goal.invariant-loop
invariant-loop l = l.shapes ≡ replicate l.counter None
