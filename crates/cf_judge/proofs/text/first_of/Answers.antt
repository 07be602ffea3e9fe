use Rattle.std.proofs.lemmas.Map.Text.{hash_map_updates_str}
use Rattle.cf_judge.proofs.text.first_of.Goals as goal

pub returns-clause-ok : goal.returns-clause-ok
returns-clause-ok c =
    hash_map_updates_str c.args.units.now c.args.firsts.now c.insert.new.self _ c.in_ok-insert.ensures.updates
