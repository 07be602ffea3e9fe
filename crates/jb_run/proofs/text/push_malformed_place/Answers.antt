use Rattle.jb_run.specs.Answers.{malformed_place}
use Rattle.jv_list.proofs.PieceLemmas.{four_pieces}
use Rattle.jb_run.proofs.text.push_malformed_place.Goals as goal

pub returns : goal.returns
unfolding malformed_place
returns c =
    four_pieces _ _ _ _ _ _ _ _ _ c.in_ok-add.ensures c.in_ok-push_name_text.ensures c.in_ok-add-2.ensures
    c.in_ok-push_place.ensures
