use Rattle.std.proofs.Common.{◌≡◌, ◌∙◌, ◌≤◌, ◌-◌, ℕ, List, length, ap, subst, sym}
use Rattle.vm_world.specs.declared.frame.Frame.{Frame}
use Rattle.vm_step.specs.Frames.{below, with_running, given}
use Rattle.vm_step.proofs.FrameLemmas.{set_caller}
use Rattle.vm_step.proofs.frames.give_back.Goals as goal

pub returns-clause-ok : goal.returns-clause-ok
returns-clause-ok c =
    let change : Frame → Frame = given c.args.pc c.args.value in
    let items : List Frame = c.into_vec-items.result.items in
    let were : items ≡ c.args.frames.now = c.into_vec-items.ensures ∙ c.replace.ensures.value in
    let size : c.length-caller.result ≡ length items = c.length-caller.ensures ∙ ap length (sym were) in
    c.take_off.ensures ∙ ap below c.from_vec.ensures
    ∙ set_caller change _ c.index_mut.result.now c.give-gave.new.frame c.in_ok-gave.ensures.ok items
    (subst (λ (l : List Frame). 2 ≤ length l) (sym were) c.requires)
    (ap (λ (n : ℕ). n - 2) size) c.index_mut.ensures.value
    ∙ ap (λ (l : List Frame). with_running change (below l)) were
