use Rattle.std.proofs.Common.{◌≡◌, ◌<◌, ℕ, Some, true, slice_get}
use Rattle.cf_thin.specs.Calls.Passes.{IsAimed}
use Rattle.cf_thin.proofs.starts.are_aimed.Given as goal

abbrev pub invariant-loop-pc : goal.invariant-loop-pc
invariant-loop-pc l = (at : ℕ) → at < l.pc → slice_get l.starts at ≡ Some true → IsAimed l.code at
