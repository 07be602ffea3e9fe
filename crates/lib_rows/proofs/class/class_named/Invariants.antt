-- What is still to be searched answers what the whole list does.
use Rattle.std.proofs.Common.{◌≡◌, length}
use Rattle.lib_rows.specs.Calls.{class_in}
use Rattle.lib_rows.proofs.class.class_named.Given as goal

abbrev pub invariant-loop-classes : goal.invariant-loop-classes
invariant-loop-classes l = class_in l.classes l.name ≡ class_in l.initial.classes l.name

abbrev pub decreases-loop-classes : goal.decreases-loop-classes
decreases-loop-classes l = length l.classes
