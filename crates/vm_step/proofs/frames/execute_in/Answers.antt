use Rattle.std.proofs.Common.{◌≡◌, ◌∙◌, ◌-◌, ℕ, List, length, ap, sym, arith}
use Rattle.vm_world.specs.declared.frame.Frame.{Frame}
use Rattle.vm_step.specs.Frames.{with_running, executed}
use Rattle.vm_step.proofs.FrameLemmas.{set_running}
use Rattle.vm_step.proofs.frames.execute_in.Goals as goal

pub returns-clause-ok : goal.returns-clause-ok
returns-clause-ok c =
    let change : Frame → Frame = executed c.args.pc c.args.count c.args.value in
    let items : List Frame = c.into_vec-items.result.items in
    let were : items ≡ c.args.frames.now = c.into_vec-items.ensures ∙ c.replace.ensures.value in
    let size : c.length-size.result ≡ length items = c.length-size.ensures ∙ ap length (sym were) in
    c.from_vec.ensures
    ∙ set_running change _ c.index_mut.result.now c.execute-executed.new.frame c.in_ok-executed.ensures.ok items
    (omega (arith, size, c.if-size-eq0.false)) (ap (λ (n : ℕ). n - 1) size) c.index_mut.ensures.value
    ∙ ap (λ (l : List Frame). with_running change l) were
