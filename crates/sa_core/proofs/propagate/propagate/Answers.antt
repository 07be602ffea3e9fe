use Rattle.std.proofs.Common.{◌≤◌, ℕ, length, subst, arith}
use Rattle.sa_core.specs.TrailView.{lits_of}
use Rattle.sa_core.specs.Watching.{IsKept}
use Rattle.sa_core.proofs.TrailLemmas.{lits_length}
use Rattle.sa_core.proofs.GuardLemmas.{all_settled}
use Rattle.sa_core.proofs.LookLemmas.{ended_at}
use Rattle.sa_core.proofs.propagate.propagate.Goals as goal

pub returns-clause-propagates : goal.returns-clause-propagates
returns-clause-propagates c =
    let loop = c.loop-head.invariant in
    let watchers = c.loop-head.watchers in
    let new = c.loop-head.trail in
    let past : length new.steps ≤ c.loop-head.head =
    subst (λ (n : ℕ). n ≤ c.loop-head.head) c.length.ensures c.loop-head-test.false in
    let ended =
    ended_at c.args.store.now watchers.pairs (lits_of new.steps) c.loop-head.head
    (omega (arith, past, lits_length new.steps)) loop.guarded in
    record {
      grows = loop.grows;
      kept =
          subst (λ (n : ℕ). IsKept n c.args.store.now watchers new.steps) loop.variables loop.kept;
      finds = all_settled c.args.store.now watchers.pairs (lits_of new.steps) loop.kept.stored.count ended;
      ended = ended;
    }
