use Rattle.cf_bodies.proofs.CheckLemmas.{AreDone}
use Rattle.cf_bodies.proofs.row.judge_rows.Given as goal

abbrev pub invariant-loop-row : goal.invariant-loop-row
invariant-loop-row l = AreDone l.bytes l.start l.rows l.row-index l.place
