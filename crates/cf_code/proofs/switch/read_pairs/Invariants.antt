use Rattle.std.proofs.Common.{length}
use Rattle.cf_code.specs.Switches.{pair, FitsCase}
use Rattle.jv_list.proofs.FrontLemmas.{Front}
use Rattle.cf_code.proofs.switch.read_pairs.Given as goal

abbrev pub invariant-loop-case : goal.invariant-loop-case
invariant-loop-case l = Front (pair l.pc) FitsCase l.bytes l.cases.items l.rest

abbrev pub decreases-loop-case : goal.decreases-loop-case
decreases-loop-case l = length l.rest
