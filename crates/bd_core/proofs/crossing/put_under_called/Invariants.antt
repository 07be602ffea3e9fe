-- What the items so far select was put.
use Rattle.std.proofs.Common.{take}
use Rattle.bd_core.specs.Calls.Adds.{Adds, Each}
use Rattle.bd_core.specs.Calls.Gives.{OfClass}
use Rattle.bd_core.specs.Loads.{given}
use Rattle.bd_core.proofs.crossing.put_under_called.Given as goal

abbrev pub invariant-classes : goal.invariant-classes
invariant-classes l =
    Adds (Each (take l.class-index l.fn.classes) (OfClass (given l.fn.loaded) l.fn.at l.fn.interface)) l.fn.out l.out
