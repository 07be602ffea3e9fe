use Rattle.std.proofs.Common.{take}
use Rattle.cf_bodies.specs.Calls.Unmet.{AreMet}
use Rattle.cf_bodies.proofs.code.first_unmet.Given as goal

abbrev pub invariant-loop-placed : goal.invariant-loop-placed
invariant-loop-placed l = AreMet l.pool (take l.placed-index l.code)
