-- One run more is known less, or is not.
use Rattle.std.proofs.Common.{◌≡◌, length, arith, subst}
use Rattle.ck_shapes.specs.Shape.{IsKnownLess}
use Rattle.ck_shapes.specs.Calls.Joins.{IsKnownOnlyHere}
use Rattle.ck_shapes.specs.Calls.Runs.{joined}
use Rattle.ck_shapes.proofs.LocalLemmas.{Locals}
use Rattle.ck_shapes.proofs.RunLemmas.{remain_step, remain_no}
use Rattle.ck_shapes.proofs.run.are_known_less.Goals as goal

pub returns-then-not-is_known_less-clause-no : goal.returns-then-not-is_known_less-clause-no
returns-then-not-is_known_less-clause-no c e =
    let l = c.loop-l in
    let same : length c.in-Some.l.now ≡ length c.in-Some-split_first.r.now =
    omega (arith, c.if-length.false, c.length.ensures, c.length-in-Some.ensures) in
    remain_no (joined c.args.less.now) (joined c.args.more.now) l.lefts.now l.rights.now c.in-Some.lefts_after.now
    c.in-Some-split_first.rights_after.now c.in-Some.l.now c.in-Some-split_first.r.now c.in-Some.ensures.cases.0
    c.in-Some-split_first.ensures.cases.0 same
    (subst (λ (x : Locals). IsKnownOnlyHere x c.in-Some-split_first.r.now) c.items.ensures
    (subst (λ (x : Locals). IsKnownOnlyHere c.items.result.now x) c.items-in-Some.ensures
    (c.is_known_less.ensures.no c.if-not-is_known_less.true))) l.invariant

pub loop-l-preserved : goal.loop-l-preserved
loop-l-preserved c =
    let l = c.loop-l in
    let same : length c.in-Some.l.now ≡ length c.in-Some-split_first.r.now =
    omega (arith, c.if-length.false, c.length.ensures, c.length-in-Some.ensures) in
    remain_step (joined c.args.less.now) (joined c.args.more.now) l.lefts.now l.rights.now c.in-Some.lefts_after.now
    c.in-Some-split_first.rights_after.now c.in-Some.l.now c.in-Some-split_first.r.now c.in-Some.ensures.cases.0
    c.in-Some-split_first.ensures.cases.0 same
    (subst (λ (x : Locals). IsKnownLess x c.in-Some-split_first.r.now) c.items.ensures
    (subst (λ (x : Locals). IsKnownLess c.items.result.now x) c.items-in-Some.ensures
    (c.is_known_less.ensures.yes c.if-not-is_known_less.false))) l.invariant
