use Rattle.cf_judge.proofs.LawLemmas.{one_first}
use Rattle.cf_judge.proofs.laws.one_first.Goals as goal

pub returns : goal.returns
returns c = one_first
