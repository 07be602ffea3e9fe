-- Where trees or types end, all arguments were added.
use Rattle.std.proofs.Common.{ap, map, ◌∙◌}
use Rattle.std.proofs.lemmas.Slice.Zip.{either_empty_from_Zip}
use Rattle.std.specs.Iterator.Adapters.{zip_first, zip_second}
use Rattle.std.specs.Slice.Iter.{iter_rest}
use Rattle.serde_json.specs.Data.{array}
use Rattle.serde_json.specs.View.{view, items_of}
use Rattle.serde_json.proofs.Views.{view-Array}
use Rattle.tr_inputs.proofs.ArgumentLemmas.{told, all_told}
use Rattle.tr_inputs.proofs.text.arguments_value.Goals as goal

pub returns : goal.returns
returns c =
    let l = c.loop-tree in
    let all = all_told (map view l.values.items) (iter_rest (zip_first l.tree-iterator))
    (iter_rest (zip_second l.tree-iterator)) (told c.args.args.now c.args.types.now) l.invariant
    (either_empty_from_Zip l.tree-iterator c.next.new.self c.next.result c.in-None.is c.next.ensures.steps) in
    view-Array l.values ∙ ap (λ ds. array (items_of ds)) all
