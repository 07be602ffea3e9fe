-- Both.
use Rattle.std.proofs.Common.{rules}
use Rattle.std.proofs.lemmas.Result.{on_ok_weaker}
use Rattle.bd_core.specs.Loads.{given}
use Rattle.bd_core.proofs.GiftLemmas.{ready_gifts}
use Rattle.bd_core.proofs.by_member.put_ready.Goals as goal

pub returns : goal.returns
returns c =
    on_ok_weaker c.put_initialiser.result
    (ready_gifts (given c.args.loaded.now) _ _ _ c.args.class.now (search rules)) c.put_initialiser.ensures
