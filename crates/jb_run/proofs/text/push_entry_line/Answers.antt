use Rattle.jb_run.specs.Answers.{entry_line}
use Rattle.jv_list.proofs.PieceLemmas.{three_pieces}
use Rattle.jb_run.proofs.text.push_entry_line.Goals as goal

pub returns : goal.returns
unfolding entry_line
returns c =
    three_pieces _ _ _ _ _ _ _ c.in_ok-add.ensures (rw
    (c.as_str.ensures, c.in_ok-text.ensures) at c.in_ok-add-2.ensures)
    c.in_ok-add-3.ensures
