use Rattle.cf_write.proofs.WrittenLemmas.{read_again}
use Rattle.cf_write.proofs.laws.round_trip.Goals as goal

pub returns : goal.returns
returns c = read_again c.one_class.ensures
