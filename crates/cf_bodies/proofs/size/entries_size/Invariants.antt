use Rattle.std.proofs.Common.{◌≡◌, length, take}
use Rattle.std.specs.List.{flat_map}
use Rattle.cf_pool.specs.Spelling.{entry_text}
use Rattle.cf_bodies.proofs.size.entries_size.Given as goal

abbrev pub invariant-loop-entry : goal.invariant-loop-entry
invariant-loop-entry l = l.size ≡ length (flat_map entry_text (take l.entry-index l.pool))
