use Rattle.jb_run.specs.Answers.{value_bounds}
use Rattle.jv_list.proofs.PieceLemmas.{four_pieces}
use Rattle.jb_run.proofs.text.push_value_bounds.Goals as goal

pub returns : goal.returns
unfolding value_bounds
returns c =
    four_pieces _ _ _ _ _ _ _ _ _ c.in_ok-push_bound.ensures c.in_ok-push_bound-2.ensures c.in_ok-push_bound-3.ensures
    c.in_ok-add.ensures
