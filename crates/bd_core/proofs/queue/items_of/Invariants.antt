-- What was sifted so far, and what is left.
use Rattle.std.specs.Prelude.{◌≡◌, length}
use Rattle.std.specs.Vec.Iter.{into_iter_items, into_iter_len}
use Rattle.bd_core.specs.Loads.{given}
use Rattle.bd_core.proofs.QueueLemmas.{Sifting}
use Rattle.bd_core.proofs.queue.items_of.Given as goal

abbrev pub invariant-members : goal.invariant-members
invariant-members l =
    Sifting (given l.fn.loaded) l.fn.members l.items (into_iter_items l.member-iterator)
    × (into_iter_len l.member-iterator ≡ length (into_iter_items l.member-iterator))
