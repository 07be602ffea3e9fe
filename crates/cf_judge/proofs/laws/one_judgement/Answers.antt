use Rattle.cf_judge.proofs.LawLemmas.{one_judgement}
use Rattle.cf_judge.proofs.laws.one_judgement.Goals as goal

pub returns : goal.returns
returns c = one_judgement c.forms_decided.ensures
