use Rattle.std.proofs.Common.{◌≡◌, length, take}
use Rattle.cf_pool.specs.ModifiedUtf8.{encoded_units}
use Rattle.cf_judge.proofs.size.units_size.Given as goal

abbrev pub invariant-loop-unit : goal.invariant-loop-unit
invariant-loop-unit l = l.size ≡ length (encoded_units (take l.unit-index l.units))
