-- The spelling of what was read is what was read.
use Rattle.cf_pool.proofs.PoolLemmas.{spelled_again}
use Rattle.cf_pool.proofs.laws.round_trip.Goals as goal

pub returns : goal.returns
returns c = spelled_again
