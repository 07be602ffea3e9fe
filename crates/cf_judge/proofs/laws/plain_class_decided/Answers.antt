use Rattle.cf_judge.proofs.WordLemmas.{plain_class}
use Rattle.cf_judge.proofs.laws.plain_class_decided.Goals as goal

pub returns : goal.returns
returns c = plain_class c.forms_decided.ensures
