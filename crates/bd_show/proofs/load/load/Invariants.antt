-- The core is kept, and its job stays.
use Rattle.std.proofs.Common.{◌≡◌}
use Rattle.bd_core.specs.Loading.{job_of, IsKept}
use Rattle.bd_show.proofs.load.load.Given as goal

abbrev pub invariant-steps : goal.invariant-steps
invariant-steps over l = IsKept l.core × (job_of l.core ≡ job_of l.fn.core)
