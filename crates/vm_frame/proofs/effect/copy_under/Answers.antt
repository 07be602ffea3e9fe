use Rattle.std.proofs.Common.{arith}
use Rattle.vm_frame.specs.Operands.{values}
use Rattle.vm_frame.proofs.CopyLemmas.{copied_under}
use Rattle.vm_frame.proofs.effect.copy_under.Goals as goal

pub returns-clause-ok : goal.returns-clause-ok
returns-clause-ok c =
    copied_under c.args.stack.now (values c.args.top) (values c.args.under) c.put_on.new.stack c.put_at.new.stack
    c.put_at-2.new.stack _ _ c.requires c.in_ok-put_on.ensures.ok (omega arith) (omega arith) c.put_at.ensures
    c.put_at-2.ensures
