use Rattle.std.proofs.Common.{◌≡◌, ◌++◌, take}
use Rattle.std.specs.List.{flat_map}
use Rattle.ck_shapes.specs.Methods.{locals_of}
use Rattle.ck_shapes.proofs.method.put_locals.Given as goal

abbrev pub invariant-loop-of : goal.invariant-loop-of
invariant-loop-of l = l.locals ≡ l.fn.locals ++ flat_map locals_of (take l.of-index l.types)
