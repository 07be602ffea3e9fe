-- The field that is meant is used.
use Rattle.std.proofs.Common.{subst}
use Rattle.std.proofs.lemmas.Result.{on_ok_weaker}
use Rattle.bd_core.specs.Loads.{given}
use Rattle.bd_core.specs.Calls.Adds.{Tells}
use Rattle.hi_tree.specs.Fields.{IsField}
use Rattle.bd_core.proofs.FactLemmas.{field_gift}
use Rattle.bd_core.proofs.by_fact.put_field.Goals as goal

pub returns : goal.returns
returns c =
    let tells : Tells c.in_ok-declared.declared (IsField (given c.args.loaded.now).classes c.args.at.now) =
    subst (λ cs. Tells c.in_ok-declared.declared (IsField cs c.args.at.now)) c.classes.ensures
    c.in_ok-declared.ensures in
    on_ok_weaker c.put_used.result
    (λ h pc m. field_gift (given c.args.loaded.now) m c.args.at.now c.args.access pc c.in_ok-declared.declared _ _
    tells h)
    c.put_used.ensures
