use Rattle.std.proofs.Common.{◌+◌, ◌-◌, ap, ◌∙◌}
use Rattle.std.specs.Prelude.{slice_set}
use Rattle.vm_frame.proofs.CopyLemmas.{none_put, one_put, two_put}
use Rattle.vm_frame.proofs.effect.put_at.Goals as goal

pub returns-in-NoOperand : goal.returns-in-NoOperand
returns-in-NoOperand c =
    none_put c.args.stack.now c.args.count c.length.result c.args.operands c.args.stack.now c.length.ensures
    c.requires.fits c.requires.there c.in-NoOperand.is

pub returns-in-OneOperand : goal.returns-in-OneOperand
returns-in-OneOperand c =
    one_put c.args.stack.now c.args.count c.length.result c.args.operands c.set.new.self c.length.ensures
    c.requires.fits c.requires.there c.in-OneOperand.value c.in-OneOperand.is c.set.ensures

pub returns-in-TwoOperands : goal.returns-in-TwoOperands
returns-in-TwoOperands c =
    two_put c.args.stack.now c.args.count c.length.result c.args.operands c.set-in-TwoOperands-2.new.self
    c.length.ensures c.requires.fits c.requires.there c.in-TwoOperands.under c.in-TwoOperands.top c.in-TwoOperands.is
    (c.set-in-TwoOperands-2.ensures
    ∙ ap (λ l. slice_set l (c.length.result - c.args.count + 1) c.in-TwoOperands.top) c.set-in-TwoOperands.ensures)
