use Rattle.std.proofs.Common.{arith}
use Rattle.std.proofs.lemmas.List.Folds.{length-flat_map-take}
use Rattle.cf_pool.specs.ModifiedUtf8.{encoded_unit}
use Rattle.cf_judge.proofs.size.units_size.Goals as goal

pub overflow_add-size : goal.overflow_add-size
overflow_add-size c =
    let more = length-flat_map-take encoded_unit c.args.units.now c.loop-unit.unit-index 0 c.loop-unit-test.true in
    omega (arith, more, c.requires, c.loop-unit.invariant, c.unit_size-size.ensures)
