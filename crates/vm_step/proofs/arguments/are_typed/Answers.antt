use Rattle.std.proofs.Common.{sym, ◌∙◌}
use Rattle.vm_step.proofs.ArgumentLemmas.{all_typed, other_than}
use Rattle.vm_step.proofs.arguments.are_typed.Goals as goal

pub returns-then-types-values : goal.returns-then-types-values
returns-then-types-values c =
    c.suit.ensures ∙ sym (all_typed c.args.types.now c.args.values.now c.if-types-values.true)

pub returns-else-types-values : goal.returns-else-types-values
returns-else-types-values c = other_than c.args.types.now c.args.values.now c.if-types-values.false
