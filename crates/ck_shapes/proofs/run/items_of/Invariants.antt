use Rattle.std.proofs.Common.{◌≡◌, take}
use Rattle.ck_shapes.specs.Calls.Runs.{joined}
use Rattle.ck_shapes.proofs.run.items_of.Given as goal

abbrev pub invariant-loop-run : goal.invariant-loop-run
invariant-loop-run g l = l.items ≡ joined (take l.run-index l.runs)
