use Rattle.cf_class.specs.Content.{IsClassNamed}
use Rattle.cf_class.proofs.LoopLemmas.{AreMade}
use Rattle.cf_class.proofs.class_file.interface_list.Given as goal

abbrev pub invariant-loop-index : goal.invariant-loop-index
invariant-loop-index l = AreMade (λ n. n) (IsClassNamed l.names.pool.now) l.indices l.index-index l.made
