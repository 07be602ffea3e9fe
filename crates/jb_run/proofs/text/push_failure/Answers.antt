use Rattle.jb_run.specs.Answers.{failure_text}
use Rattle.jv_list.proofs.PieceLemmas.{three_pieces}
use Rattle.jb_run.proofs.text.push_failure.Goals as goal

pub returns : goal.returns
unfolding failure_text
returns c =
    rw (← c.in_ok-json.ensures, ← c.as_str.ensures.value)
    (three_pieces _ _ _ _ _ _ _ c.in_ok-add.ensures c.in_ok-add-2.ensures c.in_ok-add-3.ensures)
