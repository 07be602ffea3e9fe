use Rattle.ck_shapes.proofs.StackLemmas.{take_over, take_less}
use Rattle.ck_shapes.proofs.stack.room_above.Goals as goal

pub returns-then-left-width-clause-none : goal.returns-then-left-width-clause-none
returns-then-left-width-clause-none c within =
    take_over c.loop-of.of-index c.args.stack.now _ c.args.room c.loop-of.left c.width-width.result
    c.loop-of-test.true c.loop-of.invariant c.width-width.ensures c.if-left-width.true within

pub loop-of-preserved : goal.loop-of-preserved
loop-of-preserved c = take_less c.loop-of.of-index c.args.stack.now _ c.args.room c.loop-of.left c.width-width.result
    c.loop-of-test.true c.loop-of.invariant c.width-width.ensures c.if-left-width.false
