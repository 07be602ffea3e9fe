-- What is left has the same package.
use Rattle.std.proofs.Common.{◌≡◌, length}
use Rattle.hi_tree.specs.Sought.{package_of}
use Rattle.hi_tree.proofs.sought.package_of.Given as goal

abbrev pub invariant-loop-left : goal.invariant-loop-left
invariant-loop-left l = package_of l.left ≡ package_of l.name

abbrev pub decreases-loop-left : goal.decreases-loop-left
decreases-loop-left l = length l.left
