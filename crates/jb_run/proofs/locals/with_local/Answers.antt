use Rattle.std.proofs.Common.{◌∙◌, ap, arith}
use Rattle.jb_run.specs.Locals.{with_room}
use Rattle.jb_run.proofs.RoomLemmas.{room_more}
use Rattle.jb_run.proofs.locals.with_local.Goals as goal

pub room-preserved : goal.room-preserved
room-preserved g c = ap (λ w. with_room w c.args.index) c.in_ok-push.ensures.items
    ∙ room_more c.room.locals.items c.args.index (omega arith) ∙ c.room.invariant
