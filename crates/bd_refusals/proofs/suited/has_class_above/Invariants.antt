-- One of the names is that of a class where one of those that are left is.
use Rattle.std.proofs.Common.{◌↔◌, drop}
use Rattle.bd_refusals.specs.Calls.Suits.{HasClassAbove}
use Rattle.bd_refusals.proofs.suited.has_class_above.Given as goal

abbrev pub invariant-names : goal.invariant-names
invariant-names l =
    HasClassAbove l.fn.classes (drop l.above-index l.fn.names) ↔ HasClassAbove l.fn.classes l.fn.names
