use Rattle.jb_run.specs.Answers.{malformed_text}
use Rattle.jv_list.proofs.PieceLemmas.{four_pieces}
use Rattle.jb_run.proofs.text.push_malformed.Goals as goal

pub returns : goal.returns
unfolding malformed_text
returns c =
    four_pieces _ _ _ _ _ _ _ _ _ c.in_ok-push_malformed_place.ensures c.in_ok-add.ensures
    (rw c.word_of.ensures at c.in_ok-add-2.ensures) c.in_ok-add-3.ensures
