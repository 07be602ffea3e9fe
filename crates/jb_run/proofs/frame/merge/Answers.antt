use Rattle.jb_run.proofs.MergedLocalsLemmas.{locals_same}
use Rattle.jb_run.proofs.MergedStacksLemmas.{stacks_same}
use Rattle.jb_run.proofs.MergedFrameLemmas.{merge_of}
use Rattle.jb_run.proofs.frame.merge.Goals as goal

pub returns : goal.returns
returns c =
    let first = c.args.first.now in
    let second = c.args.second.now in
    let guarded = c.or.new.formula in
    let held = c.merge_locals.new.formula in
    let ended = c.merge_stacks.new.formula in
    merge_of c.args.formula.now guarded held ended first second
    (record { guard = c.in_ok-guard.guard; locals = c.in_ok-locals.locals; stack = c.in_ok-stack.stack })
    c.in_ok-guard.ensures.gate
    (locals_same guarded held first.guard c.as_slice.result.now first.locals c.as_slice-2.result.now second.locals
    c.in_ok-locals.locals c.as_slice.ensures c.as_slice-2.ensures c.in_ok-locals.ensures)
    (stacks_same held ended first.guard c.as_slice-3.result.now first.stack c.as_slice-4.result.now second.stack
    c.in_ok-stack.stack c.as_slice-3.ensures c.as_slice-4.ensures c.in_ok-stack.ensures)
