use Rattle.std.proofs.Common.{◌≡◌, ◌++◌, take}
use Rattle.cf_pool.specs.ModifiedUtf8.{encoded_units}
use Rattle.cf_write.proofs.text.put_units.Given as goal

abbrev pub invariant-loop-unit : goal.invariant-loop-unit
invariant-loop-unit l = l.out ≡ l.fn.out ++ encoded_units (take l.unit-index l.units)
