-- The run comes to the state.
use Rattle.std.proofs.Common.{◌≡◌, ◌-◌, ℕ, length, Some}
use Rattle.jb_run.specs.Machine.{after, start}
use Rattle.jb_run.proofs.machine.violated.Given as goal

abbrev pub invariant-run : goal.invariant-run
invariant-run l = (n : ℕ) × (after l.code n (start l.ints) ≡ Some l.state)

abbrev pub decreases-run : goal.decreases-run
decreases-run l = length l.code - l.state.pc
