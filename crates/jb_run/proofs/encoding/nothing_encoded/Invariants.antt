-- So many pcs have nothing that waits.
use Rattle.std.proofs.Common.{◌≡◌, replicate, None}
use Rattle.jb_run.proofs.encoding.nothing_encoded.Given as goal

abbrev pub invariant-loop : goal.invariant-loop
invariant-loop l = l.pending.items ≡ replicate l.counter None
