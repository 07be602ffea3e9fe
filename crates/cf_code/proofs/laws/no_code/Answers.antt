use Rattle.cf_code.proofs.CodeLemmas.{fault_is_no_code}
use Rattle.cf_code.proofs.laws.no_code.Goals as goal

pub returns : goal.returns
returns c = fault_is_no_code
