-- The parts are in order, and tell a goal.
use Rattle.jv_base.proofs.GoalLemmas.{goal_total, goal_exact}
use Rattle.jv_base.proofs.laws.goal_order.Goals as goal

pub returns : goal.returns
returns c = (goal_total, goal_exact)
