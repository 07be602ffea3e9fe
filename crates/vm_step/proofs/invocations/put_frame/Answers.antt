use Rattle.std.proofs.Common.{◌≡◌, ◌∙◌, ℕ, ◌-◌, List, [], ◌∷◌, ◌++◌, length, get_or, set, ap, arith}
use Rattle.vm_world.specs.declared.frame.Frame.{Frame}
use Rattle.vm_step.specs.Invocations.{taken}
use Rattle.vm_step.proofs.FrameLemmas.{set_under}
use Rattle.vm_step.proofs.invocations.put_frame.Goals as goal

pub returns-then-callers-gt0-clause-ok : goal.returns-then-callers-gt0-clause-ok
returns-then-callers-gt0-clause-ok c =
    let change : Frame → Frame = taken c.args.count in
    let items : List Frame = c.into_vec-items.result.items in
    let were : items ≡ c.args.frames.now ++ c.args.frame ∷ [] =
    c.into_vec-items.ensures ∙ c.replace.ensures.value ∙ c.in_ok-add.ensures.ok in
    let i : ℕ = c.length-callers.result - 1 in
    let x : Frame = c.index_mut.result.now in
    let is : x ≡ get_or (c.args.frames.now ++ c.args.frame ∷ []) i x =
    c.index_mut.ensures.value ∙ ap (λ (l : List Frame). get_or l i x) were in
    let size : c.length-callers.result ≡ length c.args.frames.now = c.length-callers.ensures in
    c.from_vec.ensures ∙ ap (λ (l : List Frame). set l i c.take.new.frame) were
    ∙ set_under change i x c.take.new.frame c.take.ensures c.args.frames.now c.args.frame
    (omega (arith, size, c.if-callers-gt0.true)) (ap (λ (n : ℕ). n - 1) size) is
