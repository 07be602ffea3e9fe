use Rattle.cf_structure.specs.Spelled.{two}
use Rattle.cf_judge.specs.Demands.{index_demands}
use Rattle.cf_judge.proofs.LoopLemmas.{IsDone}
use Rattle.cf_judge.proofs.class_file.judge_interfaces.Given as goal

abbrev pub invariant-loop-index : goal.invariant-loop-index
invariant-loop-index l = IsDone l.pool (λ earlier. index_demands) two l.start l.interfaces l.index-index l.place
