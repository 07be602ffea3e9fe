use Rattle.std.proofs.Common.{◌≡◌, ◌++◌, drop}
use Rattle.cf_thin.specs.Calls.Passes.{both_known}
use Rattle.cf_thin.proofs.shape.common_locals.Given as goal

abbrev pub invariant-loop-i : goal.invariant-loop-i
invariant-loop-i l = l.both.items ++ both_known (drop l.i l.left) (drop l.i l.right) ≡ both_known l.left l.right
