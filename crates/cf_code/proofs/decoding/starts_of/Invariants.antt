use Rattle.std.proofs.Common.{◌≤◌, ◌-◌, length}
use Rattle.cf_code.specs.Decoding.{FallsInto}
use Rattle.cf_code.proofs.decoding.starts_of.Given as goal

abbrev pub invariant-loop-size : goal.invariant-loop-size
invariant-loop-size l = FallsInto l.bytes 0 l.starts.items l.pc × (l.pc ≤ length l.bytes)

abbrev pub decreases-loop-size : goal.decreases-loop-size
decreases-loop-size l = length l.bytes - l.pc
