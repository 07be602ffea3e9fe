use Rattle.std.proofs.Common.{◌<◌, ◌∙◌, ℕ, Bool, Some, sym, subst, ap}
use Rattle.sa_core.specs.Analysis.{IsSeen}
use Rattle.sa_core.proofs.TrailLemmas.{one_place, place_within}
use Rattle.sa_core.proofs.minimize.is_given.Goals as goal

pub at-requires : goal.at-requires
at-requires c =
    let own = c.args.trail.now in
    subst (λ (n : ℕ). c.in-Some.place < n) (sym c.requires.length)
    (place_within own.steps own.places c.args.lit c.opposite.result own.placed c.opposite.ensures c.in-Some.place
    c.in-Some.ensures)

pub returns-in-Some : goal.returns-in-Some
returns-in-Some c is ne at stands =
    let own = c.args.trail.now in
    subst (IsSeen c.args.seen.now)
    (sym
    (one_place own.steps own.places c.args.lit c.opposite.result own.placed c.opposite.ensures c.in-Some.place
    c.in-Some.ensures at stands))
    (c.at.ensures ∙ ap (λ (b : Bool). Some b) is)
