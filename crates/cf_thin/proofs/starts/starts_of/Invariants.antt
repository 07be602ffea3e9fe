use Rattle.cf_thin.proofs.SweepLemmas.{Swept}
use Rattle.cf_thin.proofs.starts.starts_of.Given as goal

abbrev pub invariant-loop-pc : goal.invariant-loop-pc
invariant-loop-pc l = Swept l.code l.starts.items l.pc l.next
