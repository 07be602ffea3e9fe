use Rattle.std.proofs.Common.{◌≡◌, ◌∙◌, arith, ap, None, Option}
use Rattle.ck_shapes.specs.declared.shape.ValueType.{ValueType}
use Rattle.ck_shapes.specs.Shape.{local_at}
use Rattle.ck_shapes.specs.Calls.Joins.{common}
use Rattle.ck_shapes.proofs.LocalLemmas.{Locals, table_push, table_whole, local_past}
use Rattle.ck_shapes.proofs.local.common_locals.Goals as goal

pub loop-at-preserved : goal.loop-at-preserved
loop-at-preserved c =
    table_push (λ i. common (local_at c.args.left.now i) (local_at c.args.right.now i)) c.loop-at.at
    c.loop-at.both.items c.push.new.self.items c.common.result c.loop-at.invariant c.in_ok-push.ensures.items
    (c.common.ensures ∙ ap (λ (x : Option ValueType). common x c.local_of-in-loop-at.result) c.local_of.ensures
    ∙ ap (common (local_at c.args.left.now c.loop-at.at)) c.local_of-in-loop-at.ensures)

pub returns-clause-common : goal.returns-clause-common
returns-clause-common c i =
    ap (λ (l : Locals). local_at l i) c.from_vec.ensures
    ∙ table_whole (λ i. common (local_at c.args.left.now i) (local_at c.args.right.now i)) c.loop-at.at
    c.loop-at.both.items c.loop-at.invariant
    (λ j le. let e : local_at c.args.left.now j ≡ None = local_past c.args.left.now j (omega (arith, le)) in
    ap (λ (x : Option ValueType). common x (local_at c.args.right.now j)) e) i
