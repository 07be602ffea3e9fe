use Rattle.std.proofs.Common.{arith}
use Rattle.cf_structure.specs.Spelled.{member_text}
use Rattle.cf_structure.specs.Views.{member_of}
use Rattle.cf_bodies.proofs.SizeLemmas.{next_fits}
use Rattle.cf_bodies.proofs.size.members_size.Goals as goal

pub member_size-size-requires : goal.member_size-size-requires
member_size-size-requires c =
    let l = c.loop-member in
    let fits = next_fits member_of member_text c.args.members.now l.member-index c.member-item.result
    c.loop-member-test.true
    c.member-item.is in
    omega (arith, fits, c.requires)

pub overflow_add-size : goal.overflow_add-size
overflow_add-size c =
    let l = c.loop-member in
    let fits = next_fits member_of member_text c.args.members.now l.member-index c.member-item.result
    c.loop-member-test.true
    c.member-item.is in
    omega (arith, fits, c.requires, l.invariant, c.member_size-size.ensures)
