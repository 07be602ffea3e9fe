use Rattle.cf_pool.specs.Spelling.{entry_text}
use Rattle.cf_judge.specs.Demands.{entry_demands}
use Rattle.cf_judge.proofs.LoopLemmas.{IsDone}
use Rattle.cf_judge.proofs.entry.judge_entries.Given as goal

abbrev pub invariant-loop-entry : goal.invariant-loop-entry
invariant-loop-entry l = IsDone l.pool (λ earlier. entry_demands) entry_text l.start l.pool l.entry-index l.place
