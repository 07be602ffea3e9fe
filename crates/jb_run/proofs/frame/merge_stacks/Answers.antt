use Rattle.std.proofs.Common.{sym, subst}
use Rattle.std.proofs.lemmas.List.{length_push}
use Rattle.std.proofs.lemmas.Slice.Zip.{zip_turn, zip_end}
use Rattle.jb_run.specs.Encoder.{MergeStacks}
use Rattle.jb_run.proofs.MergedStacksLemmas.{StacksSoFar, stacks_none, stacks_more, stacks_all}
use Rattle.jb_run.proofs.frame.merge_stacks.Goals as goal

pub pair-init : goal.pair-init
pair-init c =
    subst (λ items. StacksSoFar c.args.formula.now c.args.formula.now c.args.choice c.args.first.now c.args.second.now
    items 0) (sym c.new-merged.ensures.items)
    (stacks_none c.args.formula.now c.args.choice c.args.first.now c.args.second.now)

pub pair-preserved : goal.pair-preserved
pair-preserved c =
    let turn =
    zip_turn c.args.first.now c.args.second.now c.pair.yielded c.into_iter-x-iterator.result c.pair.x-iterator
    c.next.new.self c.next.result (cc) (cc) c.pair.yielded_by
    (c.in-Some.x, c.in-Some.y) c.in-Some.is c.next.ensures.steps in
    stacks_more c.args.formula.now c.pair.formula c.merge_operand.new.formula c.args.choice c.args.first.now
    c.args.second.now c.pair.merged.items c.push.new.self.items c.in-Some.x.now c.in-Some.y.now
    c.in_ok-merge_operand.field-0 _ _
    c.pair.invariant turn.0 turn.1 (turn.2 c.in-Some.x.now)
    (turn.3 c.in-Some.y.now) c.in_ok-merge_operand.ensures c.in_ok-push.ensures.items
    (length_push c.pair.yielded (c.in-Some.x, c.in-Some.y))

pub returns : goal.returns
returns c =
    let ends =
    zip_end c.args.first.now c.args.second.now c.pair.yielded c.into_iter-x-iterator.result c.pair.x-iterator
    c.next.new.self c.next.result (cc) (cc) c.pair.yielded_by c.in-None.is c.next.ensures.steps in
    subst (λ items. MergeStacks c.args.formula.now c.pair.formula c.args.choice c.args.first.now c.args.second.now
    items) (sym c.from_vec.ensures)
    (stacks_all c.args.formula.now c.pair.formula c.args.choice c.args.first.now c.args.second.now c.pair.merged.items _
    c.pair.invariant ends)
