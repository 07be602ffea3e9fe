-- The name here is none of a class.
use Rattle.std.proofs.Common.{◌≡◌, false, slice_index_or, rules}
use Rattle.bd_refusals.specs.Suited.{HasKind}
use Rattle.bd_refusals.proofs.SuitedLemmas.{none_here}
use Rattle.bd_refusals.proofs.suited.has_class_above.Goals as goal

pub names-preserved : goal.names-preserved
names-preserved c =
    let none : HasKind c.args.classes.now (slice_index_or c.args.names.now c.names.above-index c.above-item.result).name
    false → ⊥ = search rules in
    none_here c.args.classes.now c.args.names.now c.names.above-index c.above-item.result c.names-test.true none
    c.names.invariant
