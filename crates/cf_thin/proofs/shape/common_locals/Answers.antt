use Rattle.std.proofs.Common.{◌≡◌, ◌∙◌, arith, get_or, false, ◌&&◌}
use Rattle.cf_thin.specs.Calls.Passes.{both_known}
use Rattle.cf_thin.proofs.ShapeLemmas.{both_more}
use Rattle.cf_thin.proofs.shape.common_locals.Goals as goal
use Rattle.cf_thin.proofs.shape.common_locals.Goals.{then-known, else-known}

pub loop-i-preserved : goal.loop-i-preserved
loop-i-preserved c =
    let value : c.if-known.push ≡ (get_or c.args.left.now c.loop-i.i false && get_or c.args.right.now c.loop-i.i
    false) = elim c.if-known.branch [
      | then-known w ↦ rw w.if-known.true w.push-is
      | else-known w ↦
          rw w.if-known.false (w.push-is ∙ w.if-known.false)
    ] in
    both_more c.args.left.now c.args.right.now c.loop-i.both.items c.push.new.self.items
    (both_known c.args.left.now c.args.right.now) c.loop-i.i c.if-known.push
    (omega arith) c.requires c.loop-i.invariant c.in_ok-push.ensures.items value
