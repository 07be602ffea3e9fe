use Rattle.jb_run.specs.Answers.{counts_text}
use Rattle.jv_list.proofs.PieceLemmas.{five_pieces}
use Rattle.jb_run.proofs.text.push_counts.Goals as goal

pub returns : goal.returns
unfolding counts_text
returns c =
    rw (← c.failures.ensures)
    (five_pieces _ _ _ _ _ _ _ _ _ _ _ c.in_ok-add.ensures c.in_ok-push_number.ensures c.in_ok-add-2.ensures
    c.in_ok-push_number-2.ensures c.in_ok-add-3.ensures)
