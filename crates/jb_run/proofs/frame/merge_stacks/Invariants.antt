-- The operands so far are merged.
use Rattle.std.proofs.Common.{length}
use Rattle.jb_run.proofs.MergedStacksLemmas.{StacksSoFar}
use Rattle.jb_run.proofs.frame.merge_stacks.Given as goal

abbrev pub invariant-pair : goal.invariant-pair
invariant-pair l = StacksSoFar l.fn.formula l.formula l.choice l.first l.second l.merged.items (length l.yielded)
