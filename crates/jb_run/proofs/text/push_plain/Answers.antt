use Rattle.jb_run.specs.Answers.{plain_text}
use Rattle.jv_list.proofs.PieceLemmas.{four_pieces}
use Rattle.jb_run.proofs.text.push_plain.Goals as goal

pub returns : goal.returns
unfolding plain_text
returns c =
    four_pieces _ _ _ _ _ _ _ _ _ c.in_ok-push_entry_line.ensures c.in_ok-push_bounds.ensures c.in_ok-push_lines.ensures
    c.in_ok-push_counts.ensures
