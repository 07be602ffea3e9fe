-- Where the class is among its supertypes, one of those that are left has it directly above itself.
use Rattle.std.proofs.Common.{drop}
use Rattle.bd_refusals.specs.Suited.{IsCircular}
use Rattle.bd_refusals.proofs.CircularLemmas.{AnyLast}
use Rattle.bd_refusals.proofs.circular.is_circular.Given as goal

abbrev pub invariant-found : goal.invariant-found
invariant-found l =
    IsCircular l.fn.classes l.fn.name → AnyLast l.fn.classes l.fn.name (drop l.class-index l.class-items)
