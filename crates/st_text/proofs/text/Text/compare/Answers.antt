use Rattle.std.proofs.Common.{◌∙◌, sym, arith}
use Rattle.st_text.proofs.OrderLemmas.{within}
use Rattle.st_text.proofs.text.Text.compare.Goals as goal

pub bounds-a-place : goal.bounds-a-place
bounds-a-place c = (within _ _ c.in-Some.place (sym c.first_difference.ensures ∙ c.in-Some.is)).0

pub bounds-b-place : goal.bounds-b-place
bounds-b-place c = (within _ _ c.in-Some.place (sym c.first_difference.ensures ∙ c.in-Some.is)).1

pub offset_bounds-a-place : goal.offset_bounds-a-place
offset_bounds-a-place c =
    let at = sym c.first_difference.ensures ∙ c.in-Some.is in
    let below = within c.units-a.result.now c.units-b.result.now c.in-Some.place at in
    omega (arith, below.0, c.units-a.type_inv)

pub offset_bounds-b-place : goal.offset_bounds-b-place
offset_bounds-b-place c =
    let at = sym c.first_difference.ensures ∙ c.in-Some.is in
    let below = within c.units-a.result.now c.units-b.result.now c.in-Some.place at in
    omega (arith, below.1, c.units-b.type_inv)
