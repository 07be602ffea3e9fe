use Rattle.std.proofs.Common.{◌≡◌, ◌∙◌, ◌-◌, ℕ, List, length, ap, sym, arith}
use Rattle.vm_world.specs.declared.frame.Frame.{Frame}
use Rattle.vm_step.specs.Frames.{with_running}
use Rattle.vm_step.proofs.FrameLemmas.{set_running}
use Rattle.vm_step.proofs.throws.enter_running.Goals as goal

pub returns : goal.returns
returns c =
    let change : Frame → Frame = λ frame. record frame { pc = c.args.pc; stack = c.args.stack } in
    let items : List Frame = c.into_vec-items.result.items in
    let were : items ≡ c.args.frames.now = c.into_vec-items.ensures ∙ c.replace.ensures.value in
    let size : c.length-count.result ≡ length items = c.length-count.ensures ∙ ap length (sym were) in
    c.from_vec.ensures
    ∙ set_running change _ c.index_mut.result.now c.enter.new.frame c.enter.ensures items
    (omega (arith, size, c.if-count-eq0.false)) (ap (λ (n : ℕ). n - 1) size) c.index_mut.ensures.value
    ∙ ap (λ (l : List Frame). with_running change l) were
