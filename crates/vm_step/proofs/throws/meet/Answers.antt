use Rattle.std.proofs.Common.{◌≡◌, List, [], ◌∷◌, length, set, Some, None, refl, ◌∙◌, ap, arith}
use Rattle.jv_base.specs.declared.value.Value.{Value}
use Rattle.jv_base.specs.declared.value.Value.TheVariants.{Ref}
use Rattle.vm_world.specs.declared.frame.Frame.{Frame}
use Rattle.vm_step.specs.Frames.{with_running}
use Rattle.vm_step.proofs.throws.meet.Goals as goal

set_only : (stack : List Value) (v : Value) → length stack ≡ 1 → set stack 0 v ≡ v ∷ []
set_only [] v e = absurd (omega arith)
set_only (x ∷ []) v e = refl
set_only (x ∷ y ∷ ys) v e = absurd (omega arith)

pub returns-in-Some : goal.returns-in-Some
returns-in-Some c =
    let only = c.set.ensures ∙ set_only c.args.stack (Ref (Some c.args.number)) c.requires in
    let change : List Value → Frame → Frame = λ stack frame. record frame { pc = c.in-Some.pc; stack = stack } in
    let entered = c.enter_running.ensures
    ∙ ap (λ (l : List Value). with_running (change l) c.args.state.now.frames) only in
    rw c.in-Some.is (ap (λ (l : List Frame). record c.args.state.now { frames = l; thrown = None }) entered)
