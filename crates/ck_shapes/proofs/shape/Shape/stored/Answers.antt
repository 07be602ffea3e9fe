use Rattle.std.proofs.Common.{[], ◌∷◌}
use Rattle.ck_shapes.proofs.AfterLemmas.{store_none}
use Rattle.ck_shapes.proofs.RoomLemmas.{none_replaced}
use Rattle.ck_shapes.proofs.shape.Shape.stored.Goals as goal

pub returns-in_default-clause-steps : goal.returns-in_default-clause-steps
returns-in_default-clause-steps c =
    store_none c.args.limits c.args.of c.args.index c.args.self.now
    (none_replaced (c.args.of ∷ []) [] c.args.self.now.stack c.in_ok-stack.field-0 c.in_default.is
    c.in_ok-stack.ensures)
