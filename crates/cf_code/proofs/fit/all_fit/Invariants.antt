use Rattle.std.proofs.Common.{take}
use Rattle.std.specs.List.{AllByRecursion}
use Rattle.cf_code.specs.Code.{FitsPlaced}
use Rattle.cf_code.proofs.fit.all_fit.Given as goal

abbrev pub invariant-loop-placed : goal.invariant-loop-placed
invariant-loop-placed l = AllByRecursion FitsPlaced (take l.placed-index l.placed-items)
