use Rattle.std.proofs.Common.{arith}
use Rattle.cf_thin.specs.declared.shape.Shape.{Shape}
use Rattle.cf_thin.proofs.EntryLemmas.{push_none, entry_is}
use Rattle.cf_thin.proofs.thin_code.entry_shapes.Goals as goal

pub loop-preserved : goal.loop-preserved
loop-preserved c = push_none c.push.new.self.items c.loop.shapes.items c.push-in-loop.new.self.items c.loop.counter
    (omega arith) c.loop.invariant c.in_ok-push-2.ensures.items

pub returns : goal.returns
returns c =
    let shape : Shape = record { locals = c.in_ok-locals.locals; stack = c.new.result } in (
      shape,
      entry_is c.in_ok-shapes.shapes.items c.push.new.self.items c.loop.shapes.items shape c.loop.counter
          c.args.count c.in_ok-shapes.ensures.items c.in_ok-push.ensures.items c.loop.invariant (omega arith),
      c.in_ok-locals.ensures,
      c.new.ensures,
    )
