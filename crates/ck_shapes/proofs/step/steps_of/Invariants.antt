use Rattle.std.proofs.Common.{◌≡◌, map, take}
use Rattle.ck_shapes.specs.Methods.{step_of}
use Rattle.ck_shapes.proofs.step.steps_of.Given as goal

abbrev pub invariant-loop-placed : goal.invariant-loop-placed
invariant-loop-placed l = l.steps ≡ map (step_of l.pool l.of) (take l.placed-index l.code)
