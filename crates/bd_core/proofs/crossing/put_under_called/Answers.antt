-- One item more.
use Rattle.std.proofs.Common.{rules}
use Rattle.bd_core.specs.Loads.{given}
use Rattle.bd_core.specs.Calls.Gives.{OfClass}
use Rattle.bd_core.proofs.AddsLemmas.{each_step}
use Rattle.bd_core.proofs.crossing.put_under_called.Goals as goal

pub classes-preserved : goal.classes-preserved
classes-preserved c =
    each_step (OfClass (given c.args.loaded.now) c.args.at.now c.args.interface) c.args.classes.now
    c.classes.class-index c.class-item.result
    c.args.out.now c.classes.out c.put_choice.new.out (search rules) (search rules) c.classes.invariant (search rules)
