use Rattle.std.proofs.Common.{sym, subst}
use Rattle.std.proofs.lemmas.List.{length_push}
use Rattle.std.proofs.lemmas.Slice.Zip.{zip_turn, zip_end}
use Rattle.jb_run.specs.Encoder.{MergeLocals}
use Rattle.jb_run.proofs.MergedLocalsLemmas.{LocalsSoFar, locals_none, locals_more, locals_all}
use Rattle.jb_run.proofs.frame.merge_locals.Goals as goal

pub pair-init : goal.pair-init
pair-init c =
    subst (λ items. LocalsSoFar c.args.formula.now c.args.formula.now c.args.choice c.args.first.now c.args.second.now
    items 0) (sym c.new-merged.ensures.items)
    (locals_none c.args.formula.now c.args.choice c.args.first.now c.args.second.now)

pub pair-preserved : goal.pair-preserved
pair-preserved c =
    let turn =
    zip_turn c.args.first.now c.args.second.now c.pair.yielded c.into_iter-x-iterator.result c.pair.x-iterator
    c.next.new.self c.next.result (cc) (cc) c.pair.yielded_by
    (c.in-Some.x, c.in-Some.y) c.in-Some.is c.next.ensures.steps in
    locals_more c.args.formula.now c.pair.formula c.merge_local.new.formula c.args.choice c.args.first.now
    c.args.second.now c.pair.merged.items c.push.new.self.items c.in-Some.x.now c.in-Some.y.now
    c.in_ok-merge_local.field-0 _ _
    c.pair.invariant turn.0 turn.1 (turn.2 c.in-Some.x.now)
    (turn.3 c.in-Some.y.now) c.in_ok-merge_local.ensures c.in_ok-push.ensures.items
    (length_push c.pair.yielded (c.in-Some.x, c.in-Some.y))

pub returns : goal.returns
returns c =
    let ends =
    zip_end c.args.first.now c.args.second.now c.pair.yielded c.into_iter-x-iterator.result c.pair.x-iterator
    c.next.new.self c.next.result (cc) (cc) c.pair.yielded_by c.in-None.is c.next.ensures.steps in
    subst (λ items. MergeLocals c.args.formula.now c.pair.formula c.args.choice c.args.first.now c.args.second.now
    items) (sym c.from_vec.ensures)
    (locals_all c.args.formula.now c.pair.formula c.args.choice c.args.first.now c.args.second.now c.pair.merged.items _
    c.pair.invariant ends)
