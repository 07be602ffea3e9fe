-- One item more.
use Rattle.std.proofs.Common.{rules}
use Rattle.bd_core.specs.Loads.{given}
use Rattle.bd_core.specs.Calls.Gives.{OfCall}
use Rattle.bd_core.proofs.AddsLemmas.{each_step}
use Rattle.bd_core.proofs.crossing.put_called.Goals as goal

pub calls-preserved : goal.calls-preserved
calls-preserved c =
    each_step (OfCall (given c.args.loaded.now) c.args.class.now) c.args.calls.now c.calls.call-index c.call-item.result
    c.args.out.now c.calls.out c.put_choice.new.out (search rules) (search rules) c.calls.invariant (search rules)
