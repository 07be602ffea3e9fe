-- The units are what was read, and what is left gets shorter.
use Rattle.std.proofs.Common.{◌≡◌, ◌++◌, ◌≤◌, length}
use Rattle.std.specs.List.{All}
use Rattle.cf_pool.specs.ModifiedUtf8.{IsUnit, encoded_units}
use Rattle.cf_pool.proofs.units.units_of.Given as goal

abbrev pub invariant-loop-rest : goal.invariant-loop-rest
invariant-loop-rest l = record {
  units_fit : All IsUnit l.units;
  parts : l.bytes ≡ encoded_units l.units ++ l.rest;
  within : length l.rest ≤ length l.bytes;
}

abbrev pub decreases-loop-rest : goal.decreases-loop-rest
decreases-loop-rest l = length l.rest
