use Rattle.cf_structure.specs.Spelled.{attribute_text}
use Rattle.cf_structure.specs.Views.{attribute_of}
use Rattle.cf_judge.specs.Demands.{attribute_demands}
use Rattle.jv_list.proofs.EachLemmas.{one_of, text_of}
use Rattle.cf_judge.proofs.LoopLemmas.{IsDone}
use Rattle.cf_judge.proofs.attribute.judge_attributes.Given as goal

abbrev pub invariant-loop-attribute : goal.invariant-loop-attribute
invariant-loop-attribute l =
    IsDone l.pool (one_of attribute_of (λ earlier. attribute_demands l.desc)) (text_of attribute_of attribute_text)
    l.start
    l.attributes l.attribute-index l.place
