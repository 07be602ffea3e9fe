use Rattle.cf_judge.proofs.WordLemmas.{form_or_word}
use Rattle.cf_judge.proofs.laws.form_decided.Goals as goal

pub returns : goal.returns
returns c = form_or_word c.forms_decided.ensures
