-- The locals grow up to the count, and begin with those that there were.
use Rattle.std.proofs.Common.{◌≡◌, ◌≤◌, ◌-◌, length, take}
use Rattle.vm_frame.specs.Locals.{with_room}
use Rattle.vm_frame.proofs.local.make_room.Given as goal

abbrev pub invariant-room : goal.invariant-room
invariant-room l =
    (with_room l.locals l.count ≡ with_room l.fn.locals l.count) × (l.before ≤ length l.locals)
    × (take l.before l.locals ≡ l.fn.locals)

abbrev pub decreases-room : goal.decreases-room
decreases-room l = l.count - length l.locals
