-- The characters so far lead to the progress, and what is left gets shorter.
use Rattle.std.proofs.Common.{length}
use Rattle.jv_base.proofs.SpelledFrontLemmas.{HasRead}
use Rattle.jv_base.proofs.spelled.spelled_front.Given as goal

abbrev pub invariant-loop-next : goal.invariant-loop-next
invariant-loop-next l = HasRead l.fn.form l.text l.progress l.rest

abbrev pub decreases-loop-next : goal.decreases-loop-next
decreases-loop-next l = length l.rest
