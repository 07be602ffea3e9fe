-- The lines so far, and what is left, are those of the goals.
use Rattle.std.specs.Vec.Iter.{into_iter_items}
use Rattle.jb_run.proofs.LineLemmas.{LinesAnd}
use Rattle.jb_run.proofs.verdicts.lines_for.Given as goal

abbrev pub invariant-goals : goal.invariant-goals
invariant-goals l = LinesAnd l.fn.encoding l.fn.goals l.lines (into_iter_items l.goal-iterator)
