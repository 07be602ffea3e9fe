-- Both.
use Rattle.std.proofs.lemmas.Result.{on_ok_weaker}
use Rattle.bd_core.specs.Loads.{given}
use Rattle.bd_core.specs.Calls.Gives.{IsConstantGift, IsStreamGift}
use Rattle.bd_core.proofs.AddsLemmas.{adds_both}
use Rattle.std.proofs.Common.{rules}
use Rattle.bd_core.proofs.by_fact.put_read.Goals as goal

pub returns : goal.returns
returns c =
    on_ok_weaker c.put_stream.result
    (adds_both (IsConstantGift (given c.args.loaded.now) c.args.declared.now) (IsStreamGift c.args.declared.now) _ _ _
    (search rules)) c.put_stream.ensures
