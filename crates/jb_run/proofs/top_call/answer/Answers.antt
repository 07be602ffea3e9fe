use Rattle.jb_run.proofs.AnsweredLemmas.{cause_of, asks_of}
use Rattle.jb_run.proofs.top_call.answer.Goals as goal

pub returns-in-Ok-work-clause-cause : goal.returns-in-Ok-work-clause-cause
returns-in-Ok-work-clause-cause g c =
    cause_of _ _ c.in-Ok.command c.in-Ok-work.answer c.in-Ok.ensures.found c.in-Ok-work.ensures.outcome

pub returns-in-Ok-work-clause-asked : goal.returns-in-Ok-work-clause-asked
returns-in-Ok-work-clause-asked g c =
    asks_of _ _ _ _ c.in-Ok.command c.in-Ok-work.answer c.in-Ok.ensures.found c.in-Ok-work.ensures.outcome
    c.in-Ok-work.ensures.asked
