use Rattle.cf_write.proofs.WrittenLemmas.{one_file}
use Rattle.cf_write.proofs.laws.canonical.Goals as goal

pub returns : goal.returns
returns c = one_file c.spelled.ensures
