-- What is selected of the method that is meant.
use Rattle.std.proofs.Common.{subst}
use Rattle.std.proofs.lemmas.Result.{on_ok_weaker}
use Rattle.bd_core.specs.Loads.{given}
use Rattle.bd_core.specs.Calls.Adds.{Tells}
use Rattle.hi_tree.specs.Resolution.{IsResolved}
use Rattle.bd_core.proofs.ChoiceLemmas.{choice_gift}
use Rattle.bd_core.proofs.crossing.put_choice.Goals as goal

pub returns : goal.returns
returns c =
    let m = c.in_ok-method.method in
    let tells : Tells m (IsResolved (given c.args.loaded.now).classes c.args.interface c.args.at.now) =
    subst (λ cs. Tells m (IsResolved cs c.args.interface c.args.at.now)) c.classes.ensures c.in_ok-method.ensures in
    on_ok_weaker c.put_selected.result
    (choice_gift (given c.args.loaded.now) c.args.class.now _ _ c.args.at.now c.args.interface m tells)
    c.put_selected.ensures
