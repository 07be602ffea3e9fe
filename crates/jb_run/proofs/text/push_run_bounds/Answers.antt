use Rattle.jb_run.specs.Answers.{run_bounds}
use Rattle.jv_list.proofs.PieceLemmas.{two_pieces}
use Rattle.jb_run.proofs.text.push_run_bounds.Goals as goal

pub returns : goal.returns
unfolding run_bounds
returns c = two_pieces _ _ _ _ _ c.in_ok-push_bound.ensures c.in_ok-push_bound-2.ensures
