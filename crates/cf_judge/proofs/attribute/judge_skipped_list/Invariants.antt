use Rattle.cf_structure.specs.Spelled.{skipped_text}
use Rattle.cf_structure.specs.Views.{skipped_of}
use Rattle.cf_judge.specs.Demands.{skipped_demands}
use Rattle.jv_list.proofs.EachLemmas.{one_of, text_of}
use Rattle.cf_judge.proofs.LoopLemmas.{IsDone}
use Rattle.cf_judge.proofs.attribute.judge_skipped_list.Given as goal

abbrev pub invariant-loop-attribute : goal.invariant-loop-attribute
invariant-loop-attribute l =
    IsDone l.pool (one_of skipped_of (λ earlier. skipped_demands)) (text_of skipped_of skipped_text) l.start
    l.attributes
    l.attribute-index l.place
