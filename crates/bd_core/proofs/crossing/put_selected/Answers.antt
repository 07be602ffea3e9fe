-- What is selected, where there is a method.
use Rattle.std.proofs.Common.{sym, subst}
use Rattle.std.specs.Prelude.{OnOk}
use Rattle.std.proofs.lemmas.Result.{on_ok_weaker}
use Rattle.bd_core.specs.Loads.{given}
use Rattle.hi_tree.specs.Selection.{IsSelected}
use Rattle.bd_core.specs.Calls.Adds.{Adds, OfSome, Tells}
use Rattle.bd_core.specs.Calls.Gives.{IsSelectedGift}
use Rattle.bd_core.proofs.AddsLemmas.{adds_some}
use Rattle.bd_core.proofs.ChoiceLemmas.{selected_gift}
use Rattle.bd_core.proofs.crossing.put_selected.Goals as goal

pub returns-in_ok-selected-in-Some : goal.returns-in_ok-selected-in-Some
returns-in_ok-selected-in-Some c =
    let g = given c.args.loaded.now in
    let class = c.args.class.now in
    let m = c.in-Some.resolved in
    let t = c.in_ok-selected-in-Some.field-0 in
    let tells : Tells t (IsSelected g.classes class m) =
    subst (λ cs. Tells t (IsSelected cs class m)) c.classes.ensures c.in_ok-selected-in-Some.ensures in
    subst (λ o. OnOk c.put_target.result (Adds (OfSome o (IsSelectedGift g class)) c.args.out.now c.put_target.new.out))
    (sym c.in-Some.is)
    (on_ok_weaker c.put_target.result
    (λ h. adds_some m (IsSelectedGift g class) _ _ (selected_gift g class _ _ m t tells h)) c.put_target.ensures)
