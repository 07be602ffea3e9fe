-- The locals so far are merged.
use Rattle.std.proofs.Common.{length}
use Rattle.jb_run.proofs.MergedLocalsLemmas.{LocalsSoFar}
use Rattle.jb_run.proofs.frame.merge_locals.Given as goal

abbrev pub invariant-pair : goal.invariant-pair
invariant-pair l = LocalsSoFar l.fn.formula l.formula l.choice l.first l.second l.merged.items (length l.yielded)
