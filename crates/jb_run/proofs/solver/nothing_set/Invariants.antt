-- The values so far.
use Rattle.std.proofs.Common.{◌≡◌, None, replicate}
use Rattle.jb_run.proofs.solver.nothing_set.Given as goal

abbrev pub invariant-loop-number : goal.invariant-loop-number
invariant-loop-number l = l.values.items ≡ replicate l.number None
