use Rattle.std.proofs.Common.{sym, subst}
use Rattle.ck_shapes.specs.declared.effect.Effect.{Effect}
use Rattle.ck_shapes.proofs.AfterLemmas.{Gives, moved_gives, replaced_gives}
use Rattle.ck_shapes.proofs.shape.Shape.after.Goals as goal

pub returns-in_ok-stack-in-Moves-clause-steps : goal.returns-in_ok-stack-in-Moves-clause-steps
returns-in_ok-stack-in-Moves-clause-steps c =
    moved_gives c.args.limits c.args.self.now c.args.effect.now c.in-Moves.how c.in_ok-stack-in-Moves.stack
    c.with_stack.result c.in-Moves.is c.in_ok-stack-in-Moves.ensures c.with_stack.ensures

pub returns-in-Loads-clause-steps : goal.returns-in-Loads-clause-steps
returns-in-Loads-clause-steps c =
    subst (λ (e : Effect). Gives c.args.limits e c.args.self.now c.loaded.result)
    (sym c.in-Loads.is)
    c.loaded.ensures.steps

pub returns-in-Increments-clause-steps : goal.returns-in-Increments-clause-steps
returns-in-Increments-clause-steps c =
    subst (λ (e : Effect). Gives c.args.limits e c.args.self.now c.incremented.result)
    (sym c.in-Increments.is) c.incremented.ensures.steps

pub returns-in_ok-stack-in-Replaces-clause-steps : goal.returns-in_ok-stack-in-Replaces-clause-steps
returns-in_ok-stack-in-Replaces-clause-steps c =
    replaced_gives c.args.limits c.args.self.now c.args.effect.now c.in-Replaces.takes c.in-Replaces.leaves
    c.as_slice-takes.result.now c.as_slice-leaves.result.now c.in_ok-stack-in-Replaces.stack
    c.with_stack-in-Replaces.result c.in-Replaces.is c.as_slice-takes.ensures c.as_slice-leaves.ensures
    c.in_ok-stack-in-Replaces.ensures c.with_stack-in-Replaces.ensures
