-- The trees so far were added, and the fields so far were put.
use Rattle.std.proofs.Common.{◌≡◌, map, take, drop}
use Rattle.serde_json.specs.Data.{no_members}
use Rattle.serde_json.specs.View.{view, members_view}
use Rattle.tr_inputs.specs.Values.{field_key, tree_value, values_of, put_all}
use Rattle.tr_inputs.proofs.tree.+tree.Given as goal

abbrev pub invariant-elements_of-loop-tree : goal.invariant-elements_of-loop-tree
invariant-elements_of-loop-tree l =
    map view l.values.items ≡ values_of (take l.tree-index l.tree-items) l.desc

abbrev pub invariant-members_of-loop-part : goal.invariant-members_of-loop-part
invariant-members_of-loop-part l =
    put_all (members_view l.members.entries)
    (map (λ part. (field_key part.field, tree_value part.value part.field.desc)) (drop l.part-index l.part-items))
    ≡ put_all no_members
    (map (λ part. (field_key part.field, tree_value part.value part.field.desc)) l.part-items)
