-- What the items so far select was put.
use Rattle.std.proofs.Common.{take}
use Rattle.bd_core.specs.Calls.Adds.{Adds, Each}
use Rattle.bd_core.specs.Calls.Gives.{OfCall}
use Rattle.bd_core.specs.Loads.{given}
use Rattle.bd_core.proofs.crossing.put_called.Given as goal

abbrev pub invariant-calls : goal.invariant-calls
invariant-calls l = Adds (Each (take l.call-index l.fn.calls) (OfCall (given l.fn.loaded) l.fn.class)) l.fn.out l.out
