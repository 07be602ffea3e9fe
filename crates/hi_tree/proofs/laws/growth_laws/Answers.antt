use Rattle.hi_tree.proofs.InputGrowthLemmas.{keeps, added_files, files_grow}
use Rattle.hi_tree.proofs.laws.growth_laws.Goals as goal

pub returns-clause-meanings : goal.returns-clause-meanings
returns-clause-meanings c = λ classes more grows. keeps classes more grows

pub returns-clause-added : goal.returns-clause-added
returns-clause-added c = λ classes k. (files_grow classes _ (added_files classes k), added_files classes k)
