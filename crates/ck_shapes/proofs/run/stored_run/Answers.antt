-- Far from the store the run stays.
use Rattle.std.proofs.Common.{◌≡◌, ◌⊎◌, ◌+◌, ◌<◌, ℕ, sym, subst, ◌∙◌}
use Rattle.std.proofs.lemmas.Result.{IfOk-weaker}
use Rattle.ck_shapes.specs.Calls.Runs.{stored_from}
use Rattle.ck_shapes.proofs.LocalLemmas.{Locals}
use Rattle.ck_shapes.proofs.RunLemmas.{stored_far}
use Rattle.ck_shapes.proofs.run.stored_run.Goals as goal

pub returns-then-is_far : goal.returns-then-is_far
returns-then-is_far c =
    let run : Locals = c.args.run.now in
    let far = subst (λ (n : ℕ). (c.args.reach ≡ 0) ⊎ (n + 2 < c.args.reach)) c.length.ensures
    (c.is_far.ensures c.if-is_far.true) in
    IfOk-weaker c.share.result (λ (new : Locals). new ≡ run)
    (λ (new : Locals). new ≡ stored_from run c.args.of c.args.reach)
    (λ new e. e ∙ sym (stored_far run c.args.of c.args.reach far)) c.share.ensures
