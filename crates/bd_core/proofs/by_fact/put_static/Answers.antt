-- The method that is meant is reached.
use Rattle.std.proofs.Common.{subst}
use Rattle.std.proofs.lemmas.Result.{on_ok_weaker}
use Rattle.bd_core.specs.Loads.{given}
use Rattle.bd_core.specs.Calls.Adds.{Tells}
use Rattle.hi_tree.specs.Resolution.{IsResolved}
use Rattle.bd_core.proofs.FactLemmas.{static_gift}
use Rattle.bd_core.proofs.by_fact.put_static.Goals as goal

pub returns : goal.returns
returns c =
    let tells : Tells c.in_ok-target.target (IsResolved (given c.args.loaded.now).classes c.args.interface
    c.args.at.now) =
    subst (λ cs. Tells c.in_ok-target.target (IsResolved cs c.args.interface c.args.at.now)) c.classes.ensures
    c.in_ok-target.ensures in
    on_ok_weaker c.put_reached.result
    (λ h pc m. static_gift (given c.args.loaded.now) m c.args.at.now c.args.interface _ c.args.out.now _ pc
    c.in_ok-target.target tells h)
    c.put_reached.ensures
