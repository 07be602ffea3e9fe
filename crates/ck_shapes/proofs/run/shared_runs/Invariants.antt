use Rattle.std.proofs.Common.{◌≡◌, take}
use Rattle.ck_shapes.proofs.run.shared_runs.Given as goal

abbrev pub invariant-loop-run : goal.invariant-loop-run
invariant-loop-run g l = l.new ≡ take l.run-index l.runs
