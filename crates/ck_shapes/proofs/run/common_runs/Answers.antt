-- One run more is written, and at the end all are.
use Rattle.std.proofs.Common.{◌≡◌, length, ap, arith}
use Rattle.ck_shapes.specs.Calls.Runs.{joined}
use Rattle.ck_shapes.proofs.RunLemmas.{complete_step, complete_end, none_left}
use Rattle.ck_shapes.proofs.run.common_runs.Goals as goal

pub loop-l-preserved : goal.loop-l-preserved
loop-l-preserved c =
    let l = c.loop-l in
    let same : length c.in-Some.l.now ≡ length c.in-Some-split_first.r.now =
    omega (arith, c.if-length.false, c.length.ensures, c.length-in-Some.ensures) in
    complete_step (joined c.args.left.now) (joined c.args.right.now) l.lefts.now l.rights.now
    c.in-Some.lefts_after.now c.in-Some-split_first.rights_after.now l.both c.add.new.self c.in-Some.l.now
    c.in-Some-split_first.r.now c.in_ok-common_run.field-0 c.in-Some.ensures.cases.0
    c.in-Some-split_first.ensures.cases.0 same c.in_ok-add.ensures.ok c.in_ok-common_run.ensures.long
    c.in_ok-common_run.ensures.common l.invariant

pub returns-clause-common : goal.returns-clause-common
returns-clause-common c =
    let l = c.loop-l in
    (complete_end (joined c.args.left.now) (joined c.args.right.now) (joined l.lefts.now) (joined l.rights.now)
    (joined l.both) (ap joined (none_left l.lefts.now c.in_default.ensures.cases)) l.invariant).0
