use Rattle.uw_keys.proofs.OrderLemmas.{order_reversed, order_transitive, order_exact, order_for_all_limits}
use Rattle.uw_keys.proofs.laws.order_laws.Goals as goal

pub returns-clause-reversed : goal.returns-clause-reversed
returns-clause-reversed c = order_reversed

pub returns-clause-transitive : goal.returns-clause-transitive
returns-clause-transitive c = order_transitive

pub returns-clause-exact : goal.returns-clause-exact
returns-clause-exact c = order_exact

pub returns-clause-limits : goal.returns-clause-limits
returns-clause-limits c = order_for_all_limits
