-- The names are those above.
use Rattle.std.proofs.Common.{rules}
use Rattle.std.proofs.lemmas.Result.{on_ok_weaker}
use Rattle.bd_core.specs.Loads.{given}
use Rattle.bd_core.proofs.GiftLemmas.{superclass}
use Rattle.bd_core.proofs.by_member.put_superclass.Goals as goal

pub returns : goal.returns
returns c =
    on_ok_weaker c.put_initialised.result
    (superclass (given c.args.loaded.now) _ _ c.args.class.now c.in_ok-names.names (search rules))
    c.put_initialised.ensures
