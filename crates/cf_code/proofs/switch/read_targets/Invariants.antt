use Rattle.std.proofs.Common.{length}
use Rattle.cf_code.specs.Bytes.{IsTwo}
use Rattle.cf_code.specs.Switches.{far}
use Rattle.jv_list.proofs.FrontLemmas.{Front}
use Rattle.cf_code.proofs.switch.read_targets.Given as goal

abbrev pub invariant-loop-target : goal.invariant-loop-target
invariant-loop-target l = Front (far l.pc) IsTwo l.bytes l.targets.items l.rest

abbrev pub decreases-loop-target : goal.decreases-loop-target
decreases-loop-target l = length l.rest
