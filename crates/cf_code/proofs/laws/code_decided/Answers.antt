use Rattle.cf_code.proofs.WalkedLemmas.{code_decided}
use Rattle.cf_code.proofs.laws.code_decided.Goals as goal

pub returns : goal.returns
returns c = code_decided
