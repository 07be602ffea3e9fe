use Rattle.jb_run.proofs.LineLemmas.{lines_more}
use Rattle.jb_run.proofs.verdicts.lines_for.Goals as goal

pub goals-preserved : goal.goals-preserved
goals-preserved c =
    lines_more c.args.encoding.now _ c.goals.lines (record { goal = c.in-Some.goal; verdict = c.in_ok-verdict.verdict })
    _ _ _ c.goals.invariant c.in-Some.ensures.steps.0 c.in_ok-verdict.ensures c.in_ok-add.ensures.ok
