-- The arguments so far were added.
use Rattle.std.proofs.Common.{◌≡◌, ◌++◌, map}
use Rattle.std.specs.Iterator.Adapters.{zip_first, zip_second}
use Rattle.std.specs.Slice.Iter.{iter_rest}
use Rattle.serde_json.specs.View.{view}
use Rattle.tr_inputs.proofs.ArgumentLemmas.{told}
use Rattle.tr_inputs.proofs.text.arguments_value.Given as goal

abbrev pub invariant-loop-tree : goal.invariant-loop-tree
invariant-loop-tree l =
    map view l.values.items ++ told (iter_rest (zip_first l.tree-iterator)) (iter_rest (zip_second l.tree-iterator))
    ≡ told l.args l.types
