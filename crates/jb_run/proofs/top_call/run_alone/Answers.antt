use Rattle.jb_run.proofs.IntLinesLemmas.{cause_ints}
use Rattle.jb_run.proofs.top_call.run_alone.Goals as goal

pub output-requires : goal.output-requires
output-requires g c = cause_ints _ _ _ c.answer-answer.ensures.cause
