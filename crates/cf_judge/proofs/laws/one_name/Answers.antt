use Rattle.cf_judge.proofs.FormLemmas.{one_name}
use Rattle.cf_judge.proofs.laws.one_name.Goals as goal

pub returns : goal.returns
returns c = one_name
