use Rattle.std.proofs.Common.{◌≤◌, ◌∙◌, ℕ, Bool, sym, subst}
use Rattle.sa_core.specs.Watching.{IsKept}
use Rattle.sa_core.specs.Calls.Start.{StartsAt}
use Rattle.sa_core.proofs.GrowLemmas.{grows_more}
use Rattle.sa_core.proofs.StartLemmas.{started_more, starts_done}
use Rattle.sa_core.proofs.start.start.Goals as goal

pub loop-place-preserved : goal.loop-place-preserved
loop-place-preserved c =
    let old = c.args.trail.now.steps in
    let mid = c.loop-place.trail in
    let new = c.start_at.new.trail in
    let one =
    subst
    (λ (b : Bool). StartsAt mid.variables c.args.store.now c.loop-place.watchers c.start_at.new.watchers mid.steps
    new.steps c.loop-place.place b)
    c.if-not-branch.false c.in_ok-start_at.ensures.starts in
    record {
      grows = grows_more old mid.steps new.steps c.loop-place.invariant.grows one.grows;
      kept =
          subst (λ (n : ℕ). IsKept n c.args.store.now c.start_at.new.watchers new.steps)
          (sym c.in_ok-start_at.ensures.variables) one.kept;
      started =
          started_more mid.variables c.args.store.now c.loop-place.watchers c.start_at.new.watchers old mid.steps
          new.steps
          c.loop-place.place c.loop-place.invariant.grows c.loop-place.invariant.started one;
      variables = c.in_ok-start_at.ensures.variables ∙ c.loop-place.invariant.variables;
    }

pub returns-clause-starts : goal.returns-clause-starts
returns-clause-starts c =
    starts_done c.args.trail.now.variables c.args.store.now c.loop-place.watchers c.args.trail.now.steps
    c.loop-place.trail.steps c.loop-place.place
    (subst (λ (n : ℕ). n ≤ c.loop-place.place) c.length-place-end.ensures c.loop-place-test.false)
    c.loop-place.invariant.grows
    (subst (λ (n : ℕ). IsKept n c.args.store.now c.loop-place.watchers c.loop-place.trail.steps)
    c.loop-place.invariant.variables c.loop-place.invariant.kept)
    c.loop-place.invariant.started
