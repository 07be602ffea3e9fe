use Rattle.cf_structure.specs.Views.{attribute_of}
use Rattle.cf_class.specs.Content.{IsAttributeContent}
use Rattle.cf_class.specs.Calls.Contents.{attribute_codes}
use Rattle.cf_class.proofs.LoopLemmas.{AreTaken}
use Rattle.cf_class.proofs.attribute.attribute_list.Given as goal

abbrev pub invariant-loop-part : goal.invariant-loop-part
invariant-loop-part l =
    AreTaken attribute_of (IsAttributeContent l.names.pool.now) l.parts attribute_codes l.initial.bodies l.part-index
    l.made l.bodies
