-- The value of an array, opened by one level.
use Rattle.std.proofs.Common.{◌≡◌, ℕ, List, sym, ap, ◌∙◌, codes}
use Rattle.jv_base.specs.declared.input.Tree.{Tree}
use Rattle.jv_base.specs.declared.input.Tree.TheOpen.{Tree-F}
use Rattle.jv_base.specs.declared.input.Tree.TheFolds.{fold-roll-Tree}
use Rattle.jv_base.specs.declared.input.Tree.TheVariants.{Array, rolls-Array}
use Rattle.serde_json.specs.Data.{Data, array}
use Rattle.serde_json.specs.View.{items_of}
use Rattle.tr_inputs.specs.Values.{Typed, element_type, only_member, level_value, field_value, tree_value, values_of}

pub array_value : (trees : List Tree) (desc : List ℕ) →
    tree_value (Array trees) desc ≡ only_member (codes "array") (array (items_of (values_of trees (element_type desc))))
array_value trees desc =
    ap (λ tree. tree_value tree desc) (sym (rolls-Array trees))
    ∙ ap (λ (value : Typed). value desc)
    (fold-roll-Tree Typed (List ℕ × Data) level_value field_value (Tree-F.Array trees))
