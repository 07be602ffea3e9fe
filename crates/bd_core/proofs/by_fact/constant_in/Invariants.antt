-- What is left has the first ConstantValue.
use Rattle.std.proofs.Common.{◌≡◌, drop}
use Rattle.bd_core.specs.Given.{constant_in}
use Rattle.bd_core.proofs.by_fact.constant_in.Given as goal

abbrev pub invariant-attributes : goal.invariant-attributes
invariant-attributes l = constant_in (drop l.attribute-index l.attributes) ≡ constant_in l.attributes
