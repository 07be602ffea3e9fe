use Rattle.std.proofs.Common.{◌≡◌, ◌++◌, List, subst}
use Rattle.ck_shapes.specs.declared.shape.ValueType.{ValueType}
use Rattle.ck_shapes.specs.Calls.Joins.{GivesReplaced}
use Rattle.ck_shapes.specs.Calls.Runs.{joined}
use Rattle.ck_shapes.proofs.DeepLemmas.{replaced_whole, replaced_none}
use Rattle.ck_shapes.proofs.RoomLemmas.{some_replaced, none_replaced}
use Rattle.ck_shapes.proofs.stack.Stack.replaced.Goals as goal

pub returns-in_ok-packed-in-Some : goal.returns-in_ok-packed-in-Some
returns-in_ok-packed-in-Some c =
    let parts = c.in_ok-parts.parts in
    let takes = c.args.takes.now in
    let leaves = c.args.leaves.now in
    let same : joined parts.deep ++ parts.top ≡ c.args.self.now =
    cc (c.in_ok-parts.ensures.same, c.as_slice-deep.ensures, c.as_slice-top.ensures, c.self.view_is) in
    let gives = subst (λ (l : List ValueType). GivesReplaced takes leaves l c.in_ok-top.field-0) c.as_slice.ensures
    c.in_ok-top.ensures in
    replaced_whole parts.deep parts.top c.args.self.now same takes leaves c.in-Some.top c.in_ok-packed-in-Some.field-0
    (some_replaced takes leaves parts.top c.in-Some.top c.in_ok-top.field-0 c.in-Some.is gives)
    c.in_ok-packed-in-Some.ensures

pub returns-in-None : goal.returns-in-None
returns-in-None c =
    let parts = c.in_ok-parts.parts in
    let takes = c.args.takes.now in
    let leaves = c.args.leaves.now in
    let same : joined parts.deep ++ parts.top ≡ c.args.self.now =
    cc (c.in_ok-parts.ensures.same, c.as_slice-deep.ensures, c.as_slice-top.ensures, c.self.view_is) in
    let gives = subst (λ (l : List ValueType). GivesReplaced takes leaves l c.in_ok-top.field-0) c.as_slice.ensures
    c.in_ok-top.ensures in
    replaced_none parts.deep parts.top c.args.self.now same takes leaves c.in_ok-parts.ensures.above
    (none_replaced takes leaves parts.top c.in_ok-top.field-0 c.in-None.is gives)
