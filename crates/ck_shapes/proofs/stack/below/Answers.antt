use Rattle.std.proofs.Common.{arith, ap, Some, ◌≡◌}
use Rattle.ck_shapes.proofs.StackLemmas.{one_place, too_wide}
use Rattle.ck_shapes.proofs.stack.below.Goals as goal

pub returns-then-left-width-clause-only : goal.returns-then-left-width-clause-only
returns-then-left-width-clause-only c k le e =
    let i = c.loop-left.invariant in
    absurd (too_wide c.args.stack.now c.loop-left.rest c.loop-left.left c.args.count k c.width-width.result _
    (omega arith)
    i.within i.counted c.loop-left-test.true c.width-width.ensures c.if-left-width.true (i.only k le e) e)

pub returns-clause-only : goal.returns-clause-only
returns-clause-only c k le e =
    let z : c.loop-left.left ≡ 0 = omega arith in
    ap Some (one_place c.loop-left.rest k c.args.stack.now c.loop-left.invariant.within le
    (omega (arith, e, c.loop-left.invariant.counted)))
