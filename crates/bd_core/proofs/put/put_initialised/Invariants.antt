-- What is put so far, and what is left, is what is put.
use Rattle.std.specs.Prelude.{◌≡◌, ◌++◌, map}
use Rattle.std.specs.Vec.Iter.{into_iter_items}
use Rattle.bd_core.specs.declared.member.Member.TheVariants.{Initialised}
use Rattle.bd_core.proofs.put.put_initialised.Given as goal

abbrev pub invariant-names : goal.invariant-names
invariant-names l = l.out ++ map Initialised (into_iter_items l.name-iterator) ≡ l.fn.out ++ map Initialised l.fn.names
