use Rattle.cf_code.proofs.FaultLemmas.{one_bad_opcode, one_bad_target, not_both}
use Rattle.cf_code.proofs.laws.one_fault.Goals as goal

pub returns : goal.returns
returns c = record { opcode = one_bad_opcode; target = one_bad_target; both = not_both }
