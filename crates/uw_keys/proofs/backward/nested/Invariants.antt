use Rattle.std.proofs.Common.{vec_len}
use Rattle.uw_keys.proofs.LoopLemmas.{IsLeft}
use Rattle.uw_keys.proofs.backward.nested.Given as goal

abbrev pub invariant-loop-target : goal.invariant-loop-target
invariant-loop-target l = IsLeft l.initial.pairs.items l.pairs.items l.found l.outer

abbrev pub decreases-loop-target : goal.decreases-loop-target
decreases-loop-target l = vec_len l.pairs
