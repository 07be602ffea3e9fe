-- The same words.
use Rattle.std.proofs.Common.{◌-◌, length}
use Rattle.bb_terms.specs.Calls.Terms.{HasSameWords}
use Rattle.bb_terms.proofs.table.Table.cover.Given as goal

abbrev pub invariant-loop-self : goal.invariant-loop-self
invariant-loop-self l = HasSameWords l.fn.self l.self-inside.words

abbrev pub decreases-loop-self : goal.decreases-loop-self
decreases-loop-self l = l.fn.count - length l.self-inside.words
