-- Those of the names so far are in the table.
use Rattle.std.proofs.Common.{take}
use Rattle.bd_refusals.specs.Suited.{AreSuitedOf}
use Rattle.bd_refusals.proofs.table.suited_classes.Given as goal

abbrev pub invariant-names : goal.invariant-names
invariant-names l = AreSuitedOf l.fn.classes (take l.name-index l.fn.names) l.table
