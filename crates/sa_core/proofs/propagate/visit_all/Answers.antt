use Rattle.std.proofs.Common.{◌<◌, ℕ, length, refl, subst}
use Rattle.cn_clauses.specs.Literals.{opposite_of}
use Rattle.sa_core.specs.Watching.{IsKept}
use Rattle.sa_core.proofs.LitLemmas.{below_size}
use Rattle.sa_core.proofs.GrowLemmas.{grows_same}
use Rattle.sa_core.proofs.JumpLemmas.{trail_within}
use Rattle.sa_core.proofs.LookLemmas.{turning_begin, turning_done}
use Rattle.sa_core.proofs.propagate.visit_all.Goals as goal

pub count-index-requires : goal.count-index-requires
count-index-requires c =
    let own = c.args.trail.now in
    below_size c.args.lit own.variables (length c.args.watchers.now.lists.items)
    (subst (λ (n : ℕ). n < own.variables) (c.literal_laws.ensures.opposite_variable c.args.lit)
    (trail_within own.steps own.places own.variables own.placed own.size c.args.head (opposite_of c.args.lit)
    c.requires.falsified))
    c.requires.kept.stored.size

pub loop-index-init : goal.loop-index-init
loop-index-init c =
    let own = c.args.trail.now in
    record {
      grows = grows_same own.steps;
      turning =
          turning_begin c.literal_laws.ensures.opposite_twice own.variables c.args.store.now c.args.watchers.now
          own.steps
          c.args.head c.args.lit c.count-index.result c.requires.kept c.requires.falsified c.requires.guarded
          c.count-index.ensures;
      variables = refl;
    }

pub returns-clause-visits : goal.returns-clause-visits
returns-clause-visits c =
    let new = c.loop-index.trail in
    let turning = c.loop-index.invariant.turning in
    record {
      grows = c.loop-index.invariant.grows;
      kept =
          subst (λ (n : ℕ). IsKept n c.args.store.now c.loop-index.watchers new.steps)
          c.loop-index.invariant.variables turning.kept;
      visited =
          turning_done new.variables c.args.store.now c.loop-index.watchers new.steps c.args.head c.args.lit
          c.loop-index.index c.loop-index-test.false turning;
    }
