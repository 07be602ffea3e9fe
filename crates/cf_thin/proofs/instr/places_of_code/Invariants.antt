-- What is left to place, behind what is placed, is the whole.
use Rattle.std.proofs.Common.{◌≡◌, ◌++◌, drop}
use Rattle.cf_thin.specs.Instr.{thin_places}
use Rattle.cf_thin.proofs.instr.places_of_code.Given as goal

abbrev pub invariant-loop-placed : goal.invariant-loop-placed
invariant-loop-placed l = l.places ++ thin_places (drop l.placed-index l.code) ≡ thin_places l.code
