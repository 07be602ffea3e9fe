use Rattle.cf_structure.specs.Spelled.{row_text}
use Rattle.cf_judge.specs.Demands.{row_demands}
use Rattle.cf_judge.proofs.LoopLemmas.{IsDone}
use Rattle.cf_judge.proofs.attribute.judge_rows.Given as goal

abbrev pub invariant-loop-row : goal.invariant-loop-row
invariant-loop-row l = IsDone l.pool (λ earlier. row_demands) row_text l.start l.rows l.row-index l.place
