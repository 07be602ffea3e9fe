use Rattle.cf_code.proofs.InstrLemmas.{instr_has_size}
use Rattle.cf_code.proofs.laws.one_size.Goals as goal

pub returns : goal.returns
returns c = instr_has_size
