-- The size so far and that of the rest are the whole.
use Rattle.std.proofs.Common.{◌≡◌, ◌+◌, length, drop}
use Rattle.std.specs.List.{flat_map}
use Rattle.cf_pool.specs.Spelling.{entry_text}
use Rattle.jb_run.proofs.judging.entries_size.Given as goal

abbrev pub invariant-loop-entry : goal.invariant-loop-entry
invariant-loop-entry l =
    l.size + length (flat_map entry_text (drop l.entry-index l.entries)) ≡ length (flat_map entry_text l.entries)
