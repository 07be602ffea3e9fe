use Rattle.jb_run.specs.Answers.{no_entry_text}
use Rattle.jv_list.proofs.PieceLemmas.{three_pieces}
use Rattle.jb_run.proofs.text.push_no_entry.Goals as goal

pub returns : goal.returns
unfolding no_entry_text
returns c =
    three_pieces _ _ _ _ _ _ _ c.in_ok-add.ensures (rw
    (c.as_str.ensures, c.in_ok-text.ensures) at c.in_ok-add-2.ensures)
    c.in_ok-add-3.ensures
