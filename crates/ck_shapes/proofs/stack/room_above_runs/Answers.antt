use Rattle.ck_shapes.proofs.RoomLemmas.{run_over, run_less, if_none}
use Rattle.ck_shapes.proofs.stack.room_above_runs.Goals as goal

pub returns-in_err-left-clause-none : goal.returns-in_err-left-clause-none
returns-in_err-left-clause-none c =
    let l = c.loop-run in
    if_none c.from_residual.result
    (run_over c.args.runs.now l.rest.now c.in-Some.after.now c.in-Some.run'.now c.items.result.now c.args.room l.left
    c.in-Some.ensures.cases.0 c.items.ensures l.invariant c.in_err-left.ensures.none)

pub loop-run-preserved : goal.loop-run-preserved
loop-run-preserved c =
    let l = c.loop-run in
    run_less c.args.runs.now l.rest.now c.in-Some.after.now c.in-Some.run'.now c.items.result.now c.args.room l.left
    c.in-Some.ensures.cases.0 c.items.ensures l.invariant c.in_ok-left.left c.in_ok-left.ensures.found
