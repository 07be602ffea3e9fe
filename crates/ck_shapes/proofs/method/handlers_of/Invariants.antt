use Rattle.std.proofs.Common.{◌≡◌, map, take}
use Rattle.ck_shapes.specs.Methods.{handler_of}
use Rattle.ck_shapes.proofs.method.handlers_of.Given as goal

abbrev pub invariant-loop-row : goal.invariant-loop-row
invariant-loop-row l = l.handlers ≡ map handler_of (take l.row-index l.rows)
