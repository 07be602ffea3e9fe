-- What is left to look at decides.
use Rattle.std.proofs.Common.{◌≢◌, ◌↔◌, drop, codes}
use Rattle.std.specs.List.{AllByRecursion}
use Rattle.cf_thin.proofs.thin.lacks_initializer.Given as goal

abbrev pub invariant-loop-method : goal.invariant-loop-method
invariant-loop-method l =
    AllByRecursion (λ m. m.name.name ≢ codes "<clinit>") (drop l.method-index l.methods)
    ↔ AllByRecursion (λ m. m.name.name ≢ codes "<clinit>") l.methods
