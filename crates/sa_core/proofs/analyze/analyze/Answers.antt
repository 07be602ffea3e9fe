use Rattle.std.proofs.Common.{◌≡◌, ◌<◌, ◌≤◌, ◌-◌, [], ℕ, Bool, true≢false, List, length, sym}
use Rattle.std.proofs.Common.{subst, ◌∙◌, arith, Contains}
use Rattle.std.proofs.lemmas.Option.{slice_get_within}
use Rattle.std.proofs.lemmas.Result.{IfOk-weaker}
use Rattle.jv_list.proofs.MemberLemmas.{none_member}
use Rattle.cn_clauses.specs.declared.lit.Lit.{Lit}
use Rattle.cn_clauses.specs.Literals.{opposite_of}
use Rattle.sa_core.specs.declared.analyze.Seen.{Seen}
use Rattle.sa_core.specs.TrailView.{lits_of}
use Rattle.sa_core.specs.SolverView.{IsWithin}
use Rattle.sa_core.specs.Analysis.{IsSeen, IsLower, SomeSeen, IsLearnedClause, Sees, IsMinimized}
use Rattle.jv_list.proofs.ElementLemmas.{at_contains, one_at}
use Rattle.sa_core.proofs.TrailLemmas.{at_lit, lits_length}
use Rattle.sa_core.proofs.AnalyzeLemmas.{reason_at, gives_first, gives_resolve, some_first, some_kept}
use Rattle.sa_core.proofs.MinimizeLemmas.{lower_within, learned_clause}
use Rattle.sa_core.proofs.SearchLemmas.{same_place}
use Rattle.sa_core.proofs.JumpLemmas.{settled_at}
use Rattle.sa_core.proofs.analyze.analyze.Goals as goal

nothing_lower : (trail : List Lit) (mark : ℕ) (seen : Seen) → seen.lower ≡ []
    → ((place : ℕ) → IsSeen seen.places place → ⊥) → IsLower trail mark seen.places seen.lower
nothing_lower trail mark seen e none =
    record {
      kept = λ place lit lt is stands. absurd (none place is);
      opposed = λ lit has. absurd (none_member lit (subst (λ (l : List Lit). Contains l lit) e has));
    }

pub see-requires-clause-within : goal.see-requires-clause-within
see-requires-clause-within c =
    c.requires.within c.at.result.now (at_contains c.args.store.now c.args.conflict c.at.result.now c.at.ensures)

pub loop-end-init : goal.loop-end-init
loop-end-init c =
    let clauses = c.args.store.now in
    let steps = c.args.trail.now.steps in
    let trail = lits_of steps in
    let lits = c.requires.conflict.lits in
    let seen = c.see.new.self in
    let end = c.length-end.result in
    let ended : end ≡ length steps = c.length-end.ensures in
    let has = at_contains clauses c.args.conflict lits c.requires.conflict.stands in
    let sees =
    subst (Sees trail c.in_ok-seen.seen.places seen.places)
    (one_at clauses c.args.conflict c.at.result.now lits c.at.ensures c.requires.conflict.stands)
    c.in_ok-see.ensures.sees in
    record {
      within = omega (arith, ended);
      same = sees.same ∙ c.in_ok-seen.ensures.length ∙ c.length.ensures;
      lower =
          c.in_ok-see.ensures.lower
          (nothing_lower trail c.args.mark c.in_ok-seen.seen c.in_ok-seen.ensures.lower c.in_ok-seen.ensures.none);
      gives =
          gives_first clauses trail lits seen.places end has c.requires.conflict.fails sees.seen
          (ended ∙ sym (lits_length steps));
      some =
          subst (SomeSeen seen.places c.args.mark) (lits_length steps ∙ sym ended)
          (some_first clauses trail c.args.mark lits seen.places c.args.trail.now.placed.apart
          (settled_at clauses steps c.args.mark c.requires.justified c.requires.mark) has c.requires.conflict.fails
          sees.seen);
    }

pub minimized-requires-clause-lower : goal.minimized-requires-clause-lower
minimized-requires-clause-lower c =
    let own = c.args.trail.now in
    subst (IsWithin own.variables) (sym c.as_slice-then-not-some_seen.ensures)
    (lower_within c.literal_laws.ensures.opposite_variable own.steps own.places own.variables own.placed own.size
    c.args.mark c.loop-end.seen.places c.loop-end.seen.lower c.loop-end.invariant.lower)

pub returns-then-not-some_seen : goal.returns-then-not-some_seen
returns-then-not-some_seen c =
    let clauses = c.args.store.now in
    let own = c.args.trail.now in
    let trail = lits_of own.steps in
    let end = c.loop-end.end in
    let seen = c.loop-end.seen in
    let step = c.at-step.result.now in
    let more : c.args.mark < end = c.loop-end-test.true in
    IfOk-weaker c.minimized.result
    (IsMinimized clauses trail seen.places c.opposite.result c.as_slice-then-not-some_seen.result.now)
    (IsLearnedClause clauses trail c.args.mark)
    (λ lits short.
    learned_clause clauses trail c.literal_laws.ensures.opposite_twice
    (λ i j lit e f. same_place own.steps own.places lit i j own.placed e f) c.args.mark seen.places seen.lower step.lit
    lits c.loop-end.invariant.lower
    (subst (λ (l : List Lit). IsMinimized clauses trail seen.places (opposite_of step.lit) l lits)
    c.as_slice-then-not-some_seen.ensures
    (subst (λ (l : Lit). IsMinimized clauses trail seen.places l c.as_slice-then-not-some_seen.result.now lits)
    c.opposite.ensures short))
    (end - 1) end (omega (arith, more)) (at_lit own.steps (end - 1) step c.at-step.ensures)
    (λ s.
    true≢false
    (sym
    (c.some_seen.ensures.none
    (subst (λ (l : List Bool). SomeSeen l c.args.mark (end - 1)) (sym c.as_slice.ensures) s))
    ∙ c.if-not-some_seen.true))
    c.loop-end.invariant.gives (omega (arith, more)))
    c.minimized.ensures

pub at-requires-in-Some : goal.at-requires-in-Some
at-requires-in-Some c =
    let implied =
    reason_at c.args.store.now c.args.trail.now.steps (c.loop-end.end - 1) c.at-step.result.now c.in-Some.reason
    c.requires.justified c.at-step.ensures c.in-Some.is in
    slice_get_within c.args.store.now c.in-Some.reason implied.lits implied.stands

pub see-requires-in-Some-clause-within : goal.see-requires-in-Some-clause-within
see-requires-in-Some-clause-within c =
    c.requires.within c.at-in-Some.result.now
    (at_contains c.args.store.now c.in-Some.reason c.at-in-Some.result.now c.at-in-Some.ensures)

pub loop-end-preserved-in_ok-see-2 : goal.loop-end-preserved-in_ok-see-2
loop-end-preserved-in_ok-see-2 c =
    let clauses = c.args.store.now in
    let steps = c.args.trail.now.steps in
    let trail = lits_of steps in
    let end = c.loop-end.end in
    let seen = c.loop-end.seen in
    let new = c.see-in-Some.new.self in
    let step = c.at-step.result.now in
    let more : c.args.mark < end = c.loop-end-test.true in
    let within : end ≤ length steps = c.loop-end.invariant.within in
    let implied =
    reason_at clauses steps (end - 1) step c.in-Some.reason c.requires.justified c.at-step.ensures c.in-Some.is in
    let sees =
    subst (Sees trail seen.places new.places)
    (one_at clauses c.in-Some.reason c.at-in-Some.result.now implied.lits c.at-in-Some.ensures implied.stands)
    c.in_ok-see-2.ensures.sees in
    record {
      within = omega (arith, within);
      same = sees.same ∙ c.loop-end.invariant.same;
      lower = c.in_ok-see-2.ensures.lower c.loop-end.invariant.lower;
      gives =
          gives_resolve clauses trail seen.places new.places (end - 1) end c.in-Some.reason step.lit
          (omega (arith, more))
          (at_lit steps (end - 1) step c.at-step.ensures) implied sees c.loop-end.invariant.gives;
      some =
          some_kept trail seen.places new.places implied.lits c.args.mark (end - 1) sees
          (subst (λ (l : List Bool). SomeSeen l c.args.mark (end - 1)) c.as_slice.ensures
          (c.some_seen.ensures.some c.if-not-some_seen.false));
    }
