use Rattle.std.proofs.Common.{◌+◌, List, sym, subst}
use Rattle.cf_structure.specs.Views.{member_of}
use Rattle.cf_class.specs.declared.member.Member.{Member}
use Rattle.cf_class.specs.Content.{IsMemberContent}
use Rattle.cf_class.specs.Calls.Contents.{member_codes}
use Rattle.cf_class.proofs.LoopLemmas.{AreTaken, none_taken, content_there, bodies_there, taken_more, made_all}
use Rattle.cf_class.proofs.LoopLemmas.{taken_left}
use Rattle.cf_class.proofs.member.member_list.Goals as goal

pub loop-part-init : goal.loop-part-init
loop-part-init c =
    rw c.in_ok-made.ensures
    (none_taken member_of (IsMemberContent c.args.names.now.pool.now) c.args.parts.now member_codes
    c.args.bodies.now c.requires.bodies)

pub member_content-requires-clause-content : goal.member_content-requires-clause-content
member_content-requires-clause-content c =
    let l = c.loop-part in
    content_there member_of (IsMemberContent c.args.names.now.pool.now) c.args.parts.now l.part-index
    c.part-item.result c.loop-part-test.true c.part-item.is c.requires.content

pub member_content-requires-clause-bodies : goal.member_content-requires-clause-bodies
member_content-requires-clause-bodies c =
    let l = c.loop-part in
    bodies_there member_of (IsMemberContent c.args.names.now.pool.now) c.args.parts.now member_codes
    c.args.bodies.now l.part-index c.part-item.result c.loop-part-test.true c.part-item.is l.made l.bodies l.invariant

pub loop-part-preserved : goal.loop-part-preserved
loop-part-preserved c =
    let l = c.loop-part in
    let pool = c.args.names.now.pool.now in
    let next = c.member_content.new.bodies in
    let more = taken_more member_of (IsMemberContent pool) c.args.parts.now member_codes c.args.bodies.now
    l.part-index c.part-item.result c.loop-part-test.true c.part-item.is l.made l.bodies l.invariant
    c.in_ok-member_content.field-0 next c.in_ok-member_content.ensures.content
    c.in_ok-member_content.ensures.left in
    subst
    (λ (made : List Member). AreTaken member_of (IsMemberContent pool) c.args.parts.now member_codes
    c.args.bodies.now (l.part-index + 1) made next) (sym c.in_ok-add.ensures.ok) more

pub returns-clause-content : goal.returns-clause-content
returns-clause-content c =
    let l = c.loop-part in
    made_all member_of (IsMemberContent c.args.names.now.pool.now) c.args.parts.now l.part-index l.made
    c.loop-part-test.false l.invariant.are_made

pub returns-clause-left : goal.returns-clause-left
returns-clause-left c =
    let l = c.loop-part in
    taken_left member_of (IsMemberContent c.args.names.now.pool.now) c.args.parts.now member_codes
    c.args.bodies.now l.part-index l.made l.bodies c.loop-part-test.false l.invariant
