use Rattle.hi_tree.proofs.WalkLemmas.{one_stop, clean_no_stop, no_path}
use Rattle.hi_tree.proofs.SubtypeLemmas.{found_above, clean_whole}
use Rattle.hi_tree.proofs.laws.walk_laws.Goals as goal

pub returns-clause-one : goal.returns-clause-one
returns-clause-one c = λ w name s t. one_stop w (no_path w name)

pub returns-clause-nowhere : goal.returns-clause-nowhere
returns-clause-nowhere c = λ w name s is. clean_no_stop w is (no_path w name)

pub returns-clause-found : goal.returns-clause-found
returns-clause-found c = λ w name b. found_above w b

pub returns-clause-whole : goal.returns-clause-whole
returns-clause-whole c = λ w. clean_whole w
