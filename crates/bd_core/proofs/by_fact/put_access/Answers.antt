-- A getstatic reads.
use Rattle.std.proofs.lemmas.Result.{on_ok_weaker}
use Rattle.std.proofs.Common.{◌≡◌, rules}
use Rattle.cf_code.specs.declared.field.FieldUse.TheVariants.{GetStatic}
use Rattle.bd_core.specs.Loads.{given}
use Rattle.bd_core.specs.Calls.Gives.{IsReadGift}
use Rattle.bd_core.proofs.AddsLemmas.{adds_where}
use Rattle.bd_core.proofs.by_fact.put_access.Goals as goal

pub returns-in-GetStatic : goal.returns-in-GetStatic
returns-in-GetStatic c =
    on_ok_weaker c.put_read.result
    (adds_where (c.args.access ≡ GetStatic) (IsReadGift (given c.args.loaded.now) c.args.declared.now) _ _
    (search rules)) c.put_read.ensures
