use Rattle.std.proofs.Common.{reverse, length}
use Rattle.uw_keys.proofs.ReachLemmas.{IsReaching}
use Rattle.uw_keys.proofs.backward.reach.Given as goal

abbrev pub invariant-loop-last : goal.invariant-loop-last
invariant-loop-last l = IsReaching (reverse l.fn.outer) l.source l.end (reverse l.outer)

abbrev pub decreases-loop-last : goal.decreases-loop-last
decreases-loop-last l = length l.outer
