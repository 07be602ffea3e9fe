use Rattle.uw_keys.proofs.IntervalLemmas.{one_list}
use Rattle.uw_keys.proofs.RiseLemmas.{transfer_rises, transfer_keeps}
use Rattle.uw_keys.proofs.laws.transfer_laws.Goals as goal

pub returns-clause-rises : goal.returns-clause-rises
returns-clause-rises c = transfer_rises

pub returns-clause-keeps : goal.returns-clause-keeps
returns-clause-keeps c = transfer_keeps

pub returns-clause-intervals : goal.returns-clause-intervals
returns-clause-intervals c = one_list
