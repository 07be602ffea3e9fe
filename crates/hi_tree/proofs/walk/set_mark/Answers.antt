use Rattle.std.proofs.lemmas.Map.Text.{hash_map_updates_str}
use Rattle.hi_tree.proofs.MarkLemmas.{marked_from}
use Rattle.hi_tree.proofs.walk.set_mark.Goals as goal

pub returns : goal.returns
returns c =
    marked_from _ _ c.args.name.now c.args.mark
    (hash_map_updates_str c.args.name.now c.args.marks.now c.insert.new.self _ c.in_ok-insert.ensures.updates)
