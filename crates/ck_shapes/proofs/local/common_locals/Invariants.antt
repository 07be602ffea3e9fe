use Rattle.ck_shapes.specs.Shape.{local_at}
use Rattle.ck_shapes.specs.Calls.Joins.{common}
use Rattle.ck_shapes.proofs.LocalLemmas.{IsTable}
use Rattle.ck_shapes.proofs.local.common_locals.Given as goal

abbrev pub invariant-loop-at : goal.invariant-loop-at
invariant-loop-at l = IsTable (λ i. common (local_at l.left i) (local_at l.right i)) l.at l.both.items
