-- The trees inside of an array are seen by the descriptor of its elements.
use Rattle.std.proofs.Common.{◌≡◌, codes, sym, ap, ◌∙◌}
use Rattle.std.proofs.lemmas.Result.{IfOk-weaker}
use Rattle.serde_json.specs.Data.{array}
use Rattle.serde_json.specs.View.{view, items_of}
use Rattle.serde_json.specs.declared.value.Value.{Array}
use Rattle.serde_json.proofs.Views.{view-Array}
use Rattle.tr_inputs.specs.Values.{only_member, tree_value, values_of}
use Rattle.tr_inputs.proofs.TreeLemmas.{array_value}
use Rattle.tr_inputs.proofs.tree.+tree.Goals as goal

pub tree_value-returns-in_ok-elements-in-Array : goal.tree_value-returns-in_ok-elements-in-Array
tree_value-returns-in_ok-elements-in-Array t c =
    let trees = c.in-Array.trees in
    let elements = c.in_ok-elements-in-Array.elements in
    let by_desc = ap (λ desc. items_of (values_of trees desc)) c.element_type.ensures in
    let inside = view-Array elements ∙ ap array (c.in_ok-elements-in-Array.ensures ∙ by_desc) in
    let opened = ap (λ tree. tree_value tree c.args.desc.now) c.in-Array.is ∙ array_value trees c.args.desc.now in
    IfOk-weaker c.only_member.result (λ v. view v ≡ only_member (codes "array") (view (Array elements)))
    (λ v. view v ≡ tree_value c.args.tree.now c.args.desc.now)
    (λ v is. is ∙ ap (only_member (codes "array")) inside ∙ sym opened) c.only_member.ensures
