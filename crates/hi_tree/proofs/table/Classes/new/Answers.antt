use Rattle.std.proofs.Common.{refl}
use Rattle.hi_tree.proofs.IndexLemmas.{no_index}
use Rattle.hi_tree.proofs.table.Classes.new.Goals as goal

pub invariant_of-result : goal.invariant_of-result
invariant_of-result c = rw c.new.ensures (no_index _ (λ q. rw c.new-2.ensures.empty refl))
