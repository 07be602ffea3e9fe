use Rattle.std.proofs.Common.{◌≡◌}
use Rattle.ck_shapes.proofs.RoomLemmas.{no_runs, are_same}
use Rattle.ck_shapes.proofs.stack.Stack.is_same.Goals as goal

pub returns-then-is_empty-2 : goal.returns-then-is_empty-2
returns-then-is_empty-2 c =
    let these = no_runs c.self.inside.deep c.self.inside.top (c.is_empty.ensures.0 c.if-is_empty.true) in
    let those = no_runs c.other.inside.deep c.other.inside.top
    (c.is_empty-then-is_empty.ensures.0 c.if-is_empty-2.true) in
    let left : c.args.self.now ≡ c.as_slice.result.now = cc (c.self.view_is, these, c.as_slice.ensures) in
    let right : c.args.other.now ≡ c.as_slice-then-is_empty-2.result.now =
    cc (c.other.view_is, those, c.as_slice-then-is_empty-2.ensures) in
    are_same c.as_slice.result.now c.as_slice-then-is_empty-2.result.now c.args.self.now c.args.other.now c.eq.result
    c.eq.ensures left right

pub returns : goal.returns
returns c =
    let left : c.args.self.now ≡ c.as_slice-2.result.now = cc (c.in_ok-these.ensures, c.as_slice-2.ensures) in
    let right : c.args.other.now ≡ c.as_slice-3.result.now = cc (c.in_ok-those.ensures, c.as_slice-3.ensures) in
    are_same c.as_slice-2.result.now c.as_slice-3.result.now c.args.self.now c.args.other.now c.eq-2.result
    c.eq-2.ensures left right
