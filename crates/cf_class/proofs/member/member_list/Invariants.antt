use Rattle.cf_structure.specs.Views.{member_of}
use Rattle.cf_class.specs.Content.{IsMemberContent}
use Rattle.cf_class.specs.Calls.Contents.{member_codes}
use Rattle.cf_class.proofs.LoopLemmas.{AreTaken}
use Rattle.cf_class.proofs.member.member_list.Given as goal

abbrev pub invariant-loop-part : goal.invariant-loop-part
invariant-loop-part l =
    AreTaken member_of (IsMemberContent l.names.pool.now) l.parts member_codes l.initial.bodies l.part-index
    l.made l.bodies
