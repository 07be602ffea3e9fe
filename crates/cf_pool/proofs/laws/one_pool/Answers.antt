-- The pool of a file, or the first fault of one.
use Rattle.cf_pool.proofs.NumberLemmas.{FitBytes-from_all}
use Rattle.cf_pool.proofs.PoolLemmas.{pair_same, pool_same, pool_not_fault, fault_once}
use Rattle.cf_pool.proofs.PoolDecisionLemmas.{pool_decided}
use Rattle.cf_pool.proofs.laws.one_pool.Goals as goal

pub returns : goal.returns
returns c = λ bytes fits. record {
  one = pool_decided bytes (FitBytes-from_all bytes fits);
  one_content = λ c d h k. pair_same c d (pool_same bytes c.0 d.0 c.1 d.1 h k);
  one_fault = fault_once bytes;
  not_both = λ c f h k. pool_not_fault bytes c.0 c.1 f h k;
}
