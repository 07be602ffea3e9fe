use Rattle.std.proofs.Common.{◌≡◌, take}
use Rattle.std.specs.List.{flat_map}
use Rattle.vm_world.specs.Start.{locals_of}
use Rattle.vm_step.proofs.invocations.locals_with.Given as goal

abbrev pub invariant-loop-value : goal.invariant-loop-value
invariant-loop-value l = l.locals ≡ flat_map locals_of (take l.value-index l.values)
