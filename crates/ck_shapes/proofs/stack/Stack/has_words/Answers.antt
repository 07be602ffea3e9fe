use Rattle.std.proofs.Common.{◌≡◌, ◌+◌, ◌++◌, ◌≤◌, ◌∙◌, subst, ℕ}
use Rattle.ck_shapes.specs.Shape.{words}
use Rattle.ck_shapes.specs.Calls.Runs.{joined}
use Rattle.ck_shapes.proofs.RoomLemmas.{top_fits, deep_over}
use Rattle.ck_shapes.proofs.stack.Stack.has_words.Goals as goal

pub returns-in-Some : goal.returns-in-Some
returns-in-Some c =
    let deep = joined c.as_slice.result.now in
    let top = c.as_slice-in-Some.result.now in
    let parts : c.args.self.now ≡ deep ++ top = cc (c.self.view_is, c.as_slice.ensures, c.as_slice-in-Some.ensures) in
    let counted : words deep + c.in-Some.room ≡ c.args.max = c.in-Some.ensures.found ∙ c.from.ensures in
    top_fits deep top c.args.self.now c.args.max parts c.room_above.result c.in-Some.room c.is_some.result
    c.is_some.ensures counted c.room_above.ensures.found c.room_above.ensures.none

pub returns-in-None : goal.returns-in-None
returns-in-None c =
    let deep = joined c.as_slice.result.now in
    let parts : c.args.self.now ≡ deep ++ c.self.inside.top = cc (c.self.view_is, c.as_slice.ensures) in
    deep_over deep c.self.inside.top c.args.self.now c.args.max parts
    (subst (λ (n : ℕ). words deep ≤ n → ⊥) c.from.ensures c.in-None.ensures.none)
