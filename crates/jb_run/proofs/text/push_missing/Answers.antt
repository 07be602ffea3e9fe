use Rattle.jb_run.specs.Answers.{missing_text}
use Rattle.jv_list.proofs.PieceLemmas.{three_pieces}
use Rattle.jb_run.proofs.text.push_missing.Goals as goal

pub returns : goal.returns
unfolding missing_text
returns c = three_pieces _ _ _ _ _ _ _ c.in_ok-add.ensures c.in_ok-push_name_text.ensures c.in_ok-add-2.ensures
