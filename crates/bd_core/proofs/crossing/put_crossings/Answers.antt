-- What the groups give.
use Rattle.std.proofs.Common.{sym, subst}
use Rattle.std.specs.Prelude.{OnOk}
use Rattle.std.proofs.lemmas.Result.{on_ok_weaker}
use Rattle.bd_core.specs.Loads.{given}
use Rattle.bd_core.specs.Calls.Groups.{grouped}
use Rattle.bd_core.specs.Calls.Adds.{Adds, Each}
use Rattle.bd_core.specs.Calls.Gives.{OfCall, OfClass, Crosses}
use Rattle.bd_core.proofs.ChoiceLemmas.{under_crosses, called_crosses}
use Rattle.bd_core.proofs.crossing.put_crossings.Goals as goal

pub returns-in-Under : goal.returns-in-Under
returns-in-Under c =
    let g = given c.args.loaded.now in
    let groups = grouped c.args.groups.now in
    subst (λ p. OnOk c.put_called.result (Adds (Crosses g groups p) c.args.out.now c.put_called.new.out))
    (sym c.in-Under.is)
    (on_ok_weaker c.put_called.result
    (λ h. under_crosses g groups c.args.out.now c.put_called.new.out c.in-Under.class c.in-Under.top
    (subst (λ l. Adds (Each l (OfCall g c.in-Under.class)) c.args.out.now c.put_called.new.out) c.called.ensures h))
    c.put_called.ensures)

pub returns-in-Called : goal.returns-in-Called
returns-in-Called c =
    let g = given c.args.loaded.now in
    let groups = grouped c.args.groups.now in
    let at = c.in-Called.at in
    let interface = c.in-Called.interface in
    subst (λ p. OnOk c.put_under_called.result (Adds (Crosses g groups p) c.args.out.now c.put_under_called.new.out))
    (sym c.in-Called.is)
    (on_ok_weaker c.put_under_called.result
    (λ h. called_crosses g groups c.args.out.now c.put_under_called.new.out at interface
    (subst (λ l. Adds (Each l (OfClass g at interface)) c.args.out.now c.put_under_called.new.out)
    c.under-classes.ensures h)) c.put_under_called.ensures)
