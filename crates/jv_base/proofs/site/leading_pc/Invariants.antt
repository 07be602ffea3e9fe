-- The digits so far are those of the value.
use Rattle.jv_base.proofs.PcLemmas.{IsReadTo}
use Rattle.jv_base.proofs.site.leading_pc.Given as goal

abbrev pub invariant-loop-count : goal.invariant-loop-count
invariant-loop-count l = IsReadTo l.text l.count l.value
