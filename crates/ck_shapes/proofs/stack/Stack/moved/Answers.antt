use Rattle.std.proofs.Common.{◌≡◌, ◌+◌, ◌++◌, List, subst, arith}
use Rattle.ck_shapes.specs.declared.shape.ValueType.{ValueType}
use Rattle.ck_shapes.specs.Calls.Joins.{GivesMoved}
use Rattle.ck_shapes.specs.Calls.Runs.{joined}
use Rattle.ck_shapes.proofs.DeepLemmas.{moved_whole, moved_none}
use Rattle.ck_shapes.proofs.RoomLemmas.{some_moved, none_moved}
use Rattle.ck_shapes.proofs.stack.Stack.moved.Goals as goal

pub returns-in_ok-packed-in-Some : goal.returns-in_ok-packed-in-Some
returns-in_ok-packed-in-Some c =
    let parts = c.in_ok-parts.parts in
    let same : joined parts.deep ++ parts.top ≡ c.args.self.now =
    cc (c.in_ok-parts.ensures.same, c.as_slice.ensures, c.as_slice-2.ensures, c.self.view_is) in
    let gives = subst (λ (l : List ValueType). GivesMoved c.args.how l c.in_ok-top.field-0) c.as_slice-3.ensures
    c.in_ok-top.ensures in
    moved_whole parts.deep parts.top c.args.self.now same c.args.how c.in-Some.top c.in_ok-packed-in-Some.field-0
    (some_moved c.args.how parts.top c.in-Some.top c.in_ok-top.field-0 c.in-Some.is gives)
    c.in_ok-packed-in-Some.ensures

pub returns-in-None : goal.returns-in-None
returns-in-None c =
    let parts = c.in_ok-parts.parts in
    let same : joined parts.deep ++ parts.top ≡ c.args.self.now =
    cc (c.in_ok-parts.ensures.same, c.as_slice.ensures, c.as_slice-2.ensures, c.self.view_is) in
    let gives = subst (λ (l : List ValueType). GivesMoved c.args.how l c.in_ok-top.field-0) c.as_slice-3.ensures
    c.in_ok-top.ensures in
    let count : c.from.result + c.from-2.result ≡ c.args.how.top + c.args.how.under =
    omega (arith, c.from.ensures, c.from-2.ensures) in
    moved_none parts.deep parts.top c.args.self.now same c.args.how (c.from.result + c.from-2.result) count
    c.in_ok-parts.ensures.above (none_moved c.args.how parts.top c.in_ok-top.field-0 c.in-None.is gives)
