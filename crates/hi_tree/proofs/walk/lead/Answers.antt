use Rattle.std.proofs.Common.{ℕ, false, List, sym, ◌∙◌, ap, refl, subst}
use Rattle.hi_tree.specs.Calls.Steps.{IsMarked}
use Rattle.hi_tree.specs.Calls.Walking.{steps_of, step_of, mark_of}
use Rattle.hi_tree.proofs.FrameLemmas.{steps_push, met_more}
use Rattle.hi_tree.proofs.walk.lead.Goals as goal

pub returns-in_default-above : goal.returns-in_default-above
returns-in_default-above c =
    let steps = ap (λ fs. steps_of c.args.up fs) c.in-Some.ensures.value
    ∙ steps_push c.args.up c.pop.new.self c.in-Some.frame in (
      step_of c.args.up c.in-Some.frame,
      steps_of c.args.up c.pop.new.self,
      steps,
      sym
          c.in_default-above.ensures.value,
      refl,
      subst (λ (n : List ℕ). IsMarked (mark_of c.args.walk.now.marks) n false (mark_of c.set_mark.new.marks))
          c.text.ensures c.in_ok-set_mark.ensures,
      met_more c.args.walk.now.done _ c.in-Some.frame.name c.in_ok-add.ensures.ok,
    )

pub returns : goal.returns
returns c =
    let steps = ap (λ fs. steps_of c.args.up fs) c.in-Some.ensures.value
    ∙ steps_push c.args.up c.pop.new.self c.in-Some.frame in
    let more = ap (λ fs. steps_of c.args.up fs) c.in_ok-add-2.ensures.ok ∙ steps_push c.args.up c.pop.new.self _ in (
      step_of c.args.up c.in-Some.frame,
      steps_of c.args.up c.pop.new.self,
      steps,
      sym
          c.in-Some-above.ensures.value,
      more,
      refl,
      refl,
    )
