use Rattle.std.proofs.Common.{◌≡◌, ◌<◌, ◌*◌, ◌∙◌, ℕ, length, sym, subst, arith}
use Rattle.std.proofs.lemmas.Result.{IfOk-weaker}
use Rattle.sa_core.specs.TrailView.{lits_of, code}
use Rattle.sa_core.specs.SolverView.{AreSettled}
use Rattle.sa_core.specs.Watching.{IsGuarded, AreGuarded, IsKept}
use Rattle.sa_core.specs.Calls.Propagate.{Propagates}
use Rattle.sa_core.specs.SearchView.{GoesOn}
use Rattle.sa_core.proofs.LitLemmas.{below_size}
use Rattle.sa_core.proofs.TrailLemmas.{open_empty, lits_length}
use Rattle.sa_core.proofs.CodeLemmas.{code_push, code_grows}
use Rattle.sa_core.proofs.GrowLemmas.{grows_push}
use Rattle.sa_core.proofs.GuardLemmas.{were_push, guarded_on}
use Rattle.sa_core.proofs.SearchLemmas.{justified_push, room_left}
use Rattle.sa_core.proofs.search.Search.decide.Goals as goal

pub propagate-requires-clause-kept : goal.propagate-requires-clause-kept
propagate-requires-clause-kept c =
    let old = c.args.self.now in
    let steps = old.trail.steps in
    let new = c.push.new.self.steps in
    subst (λ (n : ℕ). IsKept n old.store old.watchers new) (sym c.in_ok-push.ensures.variables)
    (record {
      stored = c.requires.ready.stored;
      justified =
          justified_push old.store steps new _ c.in_ok-push.ensures.ok c.requires.ready.justified
          (subst (AreSettled old.store (lits_of steps)) (lits_length steps) c.requires.settled);
      guarded =
          were_push old.store old.watchers.pairs steps new _ c.in_ok-push.ensures.ok c.requires.ready.guarded
          (λ none.
          subst (λ (n : ℕ). AreGuarded old.store old.watchers.pairs (lits_of steps) n n) (lits_length steps)
          c.requires.ended);
    })

pub propagate-requires-clause-guarded : goal.propagate-requires-clause-guarded
propagate-requires-clause-guarded c at lits pair is has =
    let steps = c.args.self.now.trail.steps in
    let new = c.push.new.self.steps in
    subst (λ (n : ℕ). IsGuarded (lits_of new) n (length (lits_of new)) lits pair) (sym c.length-from.ensures)
    (guarded_on steps new (grows_push steps new _ c.in_ok-push.ensures.ok) (length steps) lits pair (omega arith)
    (subst (λ (n : ℕ). IsGuarded (lits_of steps) n (length (lits_of steps)) lits pair) (lits_length steps)
    (c.requires.ended at lits pair is has)))

pub returns-clause-goes : goal.returns-clause-goes
returns-clause-goes c =
    let old = c.args.self.now in
    let mid = c.push.new.self in
    let new = c.propagate.new.trail in
    let watchers = c.propagate.new.watchers in
    let same : new.variables ≡ old.trail.variables = c.propagate.ensures.variables ∙ c.in_ok-push.ensures.variables in
    let size = 2 * old.trail.variables in
    let room : length old.trail.steps < length old.trail.places =
    room_left old.trail.steps old.trail.places c.args.lit.0 old.trail.placed
    (open_empty old.trail.steps old.trail.places c.args.lit old.trail.placed c.requires.open
    (below_size c.args.lit old.trail.variables (length old.trail.places) c.requires.within old.trail.size)) in
    let first =
    code_push size old.trail.steps mid.steps _ c.in_ok-push.ensures.ok
    (subst (λ (n : ℕ). length old.trail.steps < n) old.trail.size room) in
    IfOk-weaker c.propagate.result (Propagates mid.variables old.store watchers mid.steps new.steps)
    (GoesOn old (record { store = old.store; watchers = watchers; trail = new }))
    (λ found p.
    let second = code_grows size mid.steps new.steps p.grows in
    record {
      ready = subst (λ (n : ℕ). IsKept n old.store watchers new.steps) (sym c.propagate.ensures.variables) p.kept;
      variables = same;
      finds = p.finds;
      ended = p.ended;
      rises =
          subst (λ (n : ℕ). code size old.trail.steps < code (2 * n) new.steps) (sym same)
          (omega (arith, first, second));
    })
    c.propagate.ensures.propagates
