use Rattle.bd_core.proofs.LeastLemmas as least
use Rattle.bd_core.proofs.laws.least_is_contained.Goals as goal

pub returns : goal.returns
returns c = least.least_is_contained
