-- The arguments so far were added.
use Rattle.std.proofs.Common.{◌≡◌, map, take}
use Rattle.serde_json.specs.View.{view}
use Rattle.jb_run.specs.InputText.{argument_json}
use Rattle.jb_run.proofs.text.args_value.Given as goal

abbrev pub invariant-loop-tree : goal.invariant-loop-tree
invariant-loop-tree l = map view l.values.items ≡ map argument_json (take l.tree-index l.args)
