use Rattle.std.proofs.Common.{◌∙◌, sym, ap, List}
use Rattle.ck_shapes.specs.declared.flow.Step.{Step}
use Rattle.ck_shapes.specs.declared.flow.Handler.{Handler}
use Rattle.ck_shapes.specs.Rules.{step_at}
use Rattle.ck_shapes.specs.Calls.Ways.{handlers_at}
use Rattle.ck_shapes.specs.declared.shape.Shape.{Shape}
use Rattle.ck_shapes.specs.Shape.{Applies}
use Rattle.std.proofs.lemmas.Option.{MatchOption-at_some}
use Rattle.ck_shapes.proofs.way.way_of.Goals as goal

pub returns-clause-way : goal.returns-clause-way
returns-clause-way c = record {
  step = c.in-Some.step.now;
  action = c.in-Some-action.action;
  is = ap (λ (l : List Step). step_at l c.args.pc) (sym c.as_slice.ensures) ∙ sym c.in-Some.ensures;
  acts = c.in-Some-action.is;
  applies = MatchOption-at_some
      ((new : Shape) → Applies c.args.flow.now.limits c.in-Some-action.action.effect c.args.shape.now new → ⊥)
      (λ new. Applies c.args.flow.now.limits c.in-Some-action.action.effect c.args.shape.now new) c.in-Some-2.after
      c.in-Some-2.is
      c.in_ok-after.ensures.steps;
  nexts = c.in_ok-copied.ensures ∙ c.as_slice-2.ensures;
  thrown = c.in_ok-at_handler.ensures;
  handlers = c.from_vec.ensures ∙ c.in_ok-handlers_at.ensures
      ∙ ap (λ (l : List Handler). handlers_at l c.args.pc) c.as_slice-3.ensures;
}
