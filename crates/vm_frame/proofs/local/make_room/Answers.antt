use Rattle.std.proofs.Common.{[], ◌∷◌, length, take, None, ap, ◌∙◌, length-append, arith}
use Rattle.std.proofs.lemmas.List.{take-append-le}
use Rattle.vm_frame.specs.Locals.{with_room}
use Rattle.vm_frame.proofs.StoreLemmas.{room_more}
use Rattle.vm_frame.proofs.local.make_room.Goals as goal

pub room-preserved : goal.room-preserved
room-preserved c = (
  ap (λ l. with_room l c.args.count) c.in_default.ensures.ok
      ∙ room_more c.room.locals c.args.count (omega arith) ∙ c.room.invariant.0,
  omega (arith, ap length c.in_default.ensures.ok, length-append c.room.locals (None ∷ []), c.room.invariant.1),
  ap (λ l. take c.length-before.result l) c.in_default.ensures.ok
      ∙ take-append-le c.length-before.result c.room.locals (None ∷ []) c.room.invariant.1 ∙ c.room.invariant.2,
)
