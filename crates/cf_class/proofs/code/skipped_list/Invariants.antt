use Rattle.cf_structure.specs.Views.{skipped_of}
use Rattle.cf_class.specs.Content.{IsSkippedContent}
use Rattle.cf_class.proofs.LoopLemmas.{AreMade}
use Rattle.cf_class.proofs.code.skipped_list.Given as goal

abbrev pub invariant-loop-part : goal.invariant-loop-part
invariant-loop-part l = AreMade skipped_of (IsSkippedContent l.names.pool.now) l.parts l.part-index l.made
