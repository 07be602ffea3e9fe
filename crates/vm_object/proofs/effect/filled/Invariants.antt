use Rattle.std.proofs.Common.{◌≡◌, replicate}
use Rattle.vm_object.proofs.effect.filled.Given as goal

abbrev pub invariant-loop : goal.invariant-loop
invariant-loop l = l.list ≡ replicate l.counter l.value
