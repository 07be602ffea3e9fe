-- The locals grow up to the index.
use Rattle.std.proofs.Common.{◌≡◌, ◌+◌, ◌-◌, vec_len}
use Rattle.jb_run.specs.Locals.{with_room}
use Rattle.jb_run.proofs.locals.with_local.Given as goal

abbrev pub invariant-room : goal.invariant-room
invariant-room g l = with_room l.locals.items l.index ≡ with_room l.fn.locals l.index

abbrev pub decreases-room : goal.decreases-room
decreases-room g l = l.index + 1 - vec_len l.locals
