-- One run more is written.
use Rattle.std.proofs.Common.{ℕ, ◌-◌, ap, ◌∙◌}
use Rattle.ck_shapes.specs.Calls.Runs.{joined, stored_from}
use Rattle.ck_shapes.proofs.RunLemmas.{stored_step}
use Rattle.ck_shapes.proofs.run.stored_runs.Goals as goal

pub loop-run-preserved : goal.loop-run-preserved
loop-run-preserved c =
    let l = c.loop-run in
    stored_step (stored_from (joined c.args.runs.now) c.args.of c.args.reach) l.new c.add.new.self l.rest.now
    c.in-Some.after.now c.in-Some.run'.now c.in_ok-stored_run.field-0 c.args.of l.left c.saturating_sub-left.result
    c.in-Some.ensures.cases.0 c.in_ok-add.ensures.ok c.in_ok-stored_run.ensures
    (c.saturating_sub-left.ensures ∙ ap (λ (n : ℕ). l.left - n) c.length.ensures) l.invariant
