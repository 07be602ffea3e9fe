use Rattle.std.proofs.Common.{◌≡◌, List, subst}
use Rattle.std.proofs.lemmas.Option.{slice_get_within}
use Rattle.jv_list.proofs.ElementLemmas.{at_contains, one_at}
use Rattle.cn_clauses.specs.declared.lit.Lit.{Lit}
use Rattle.cn_clauses.specs.Literals.{opposite_of}
use Rattle.sa_core.specs.TrailView.{lits_of}
use Rattle.sa_core.specs.Analysis.{AreSeenFalse, IsSpare}
use Rattle.sa_core.proofs.TrailLemmas.{at_lit, its_place, place_within}
use Rattle.sa_core.proofs.AnalyzeLemmas.{reason_at}
use Rattle.sa_core.proofs.minimize.is_spare.Goals as goal

pub at-step-requires : goal.at-step-requires
at-step-requires c =
    let own = c.args.trail.now in
    place_within own.steps own.places c.args.lit c.opposite.result own.placed c.opposite.ensures c.in-Some.place
    c.in-Some.ensures

pub at-requires : goal.at-requires
at-requires c =
    let implied =
    reason_at c.args.store.now c.args.trail.now.steps c.in-Some.place c.at-step.result.now c.in-Some-reason.reason
    c.requires.justified c.at-step.ensures c.in-Some-reason.is in
    slice_get_within c.args.store.now c.in-Some-reason.reason implied.lits implied.stands

pub are_given-requires-clause-within : goal.are_given-requires-clause-within
are_given-requires-clause-within c =
    c.requires.within c.at.result.now
    (at_contains c.args.store.now c.in-Some-reason.reason c.at.result.now c.at.ensures)

pub returns-in-Some-reason : goal.returns-in-Some-reason
returns-in-Some-reason c is =
    let own = c.args.trail.now in
    let clauses = c.args.store.now in
    let trail = lits_of own.steps in
    let seen = c.args.seen.now in
    let place = c.in-Some.place in
    let step = c.at-step.result.now in
    let reason = c.in-Some-reason.reason in
    let stands = at_lit own.steps place step c.at-step.ensures in
    let implied =
    reason_at clauses own.steps place step reason c.requires.justified c.at-step.ensures c.in-Some-reason.is in
    let same : step.lit ≡ opposite_of c.args.lit =
    one_at trail place step.lit (opposite_of c.args.lit) stands
    (its_place own.steps own.places c.args.lit c.opposite.result own.placed c.opposite.ensures place
    c.in-Some.ensures) in
    subst (IsSpare clauses trail seen) same
    (record {
      place = place;
      is = stands;
      reason = reason;
      implied = implied;
      others =
          subst (λ (l : List Lit). AreSeenFalse trail seen l step.lit)
          (one_at clauses reason c.at.result.now implied.lits c.at.ensures implied.stands) (c.are_given.ensures is);
    })
