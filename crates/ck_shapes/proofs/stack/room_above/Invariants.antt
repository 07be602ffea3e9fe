use Rattle.std.proofs.Common.{◌≡◌, ◌+◌, take}
use Rattle.ck_shapes.specs.Shape.{words}
use Rattle.ck_shapes.proofs.stack.room_above.Given as goal

abbrev pub invariant-loop-of : goal.invariant-loop-of
invariant-loop-of l = words (take l.of-index l.stack) + l.left ≡ l.room
