use Rattle.std.proofs.Common.{take, Contains}
use Rattle.std.specs.List.{AllByRecursion}
use Rattle.cf_code.proofs.decoding.are_starts.Given as goal

abbrev pub invariant-loop-target : goal.invariant-loop-target
invariant-loop-target l = AllByRecursion (λ target. Contains l.starts.pcs.items target) (take l.target-index l.targets)
