use Rattle.std.proofs.Common.{◌-◌}
use Rattle.sa_core.proofs.order.Order.sink.Given as goal

abbrev pub decreases-loop-place : goal.decreases-loop-place
decreases-loop-place l = l.half - l.place
