-- The core is kept.
use Rattle.bd_core.specs.Loading.{IsKept}
use Rattle.bd_tests.proofs.worlds.tell_all.Given as goal

abbrev pub invariant-steps : goal.invariant-steps
invariant-steps over l = IsKept l.loader
