-- What was taken in so far, and what is left.
use Rattle.std.specs.Prelude.{◌≡◌, length}
use Rattle.std.specs.Vec.Iter.{into_iter_items, into_iter_len}
use Rattle.bd_core.proofs.TakeLemmas.{Taking}
use Rattle.bd_core.proofs.closing.take_in.Given as goal

abbrev pub invariant-items : goal.invariant-items
invariant-items l =
    Taking l.fn.found.keys l.fn.items l.found.keys (into_iter_items l.item-iterator)
    × (into_iter_len l.item-iterator ≡ length (into_iter_items l.item-iterator))
