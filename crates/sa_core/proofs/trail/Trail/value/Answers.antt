use Rattle.std.proofs.Common.{◌<◌, ◌∙◌, ap, sym, subst, length}
use Rattle.cn_clauses.specs.declared.lit.Lit.{Lit}
use Rattle.cn_clauses.specs.Literals.{variable_of}
use Rattle.sa_core.specs.TrailView.{lits_of, Stands}
use Rattle.sa_core.proofs.TrailLemmas.{placed_stands}
use Rattle.sa_core.proofs.trail.Trail.value.Goals as goal

pub place_of-requires-else-is_some : goal.place_of-requires-else-is_some
place_of-requires-else-is_some c =
    subst (λ n. n < c.args.self.now.variables)
    (sym (c.literal_laws.ensures.opposite_variable c.args.lit) ∙ ap variable_of (sym c.opposite.ensures)) c.requires

pub returns-then-is_some : goal.returns-then-is_some
returns-then-is_some c =
    placed_stands c.args.self.now.steps c.args.self.now.places c.args.lit c.place_of.result c.args.self.now.placed
    c.place_of.ensures (sym c.is_some.ensures ∙ c.if-is_some.true)

pub returns-then-is_some-2 : goal.returns-then-is_some-2
returns-then-is_some-2 c =
    let trail = c.args.self.now in
    subst (λ (l : Lit). Stands (lits_of trail.steps) (length (lits_of trail.steps)) l) c.opposite.ensures
    (placed_stands trail.steps trail.places c.opposite.result c.place_of-else-is_some.result trail.placed
    c.place_of-else-is_some.ensures (sym c.is_some-else-is_some.ensures ∙ c.if-is_some-2.true))
