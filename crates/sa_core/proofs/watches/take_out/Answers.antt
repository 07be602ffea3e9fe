use Rattle.std.proofs.Common.{◌<◌, ◌≤◌, ℕ, subst}
use Rattle.sa_core.proofs.WatchLemmas.{dropped_last, dropped_moved}
use Rattle.sa_core.proofs.watches.take_out.Goals as goal

pub returns-then-index-length : goal.returns-then-index-length
returns-then-index-length c =
    let rest = c.pop.new.self in
    dropped_moved c.args.list.now rest c.in-Some.last c.args.index c.in-Some.ensures.value c.set.new.self
    (subst (λ (n : ℕ). c.args.index < n) c.length.ensures c.if-index-length.true) c.set.ensures

pub returns-else-index-length : goal.returns-else-index-length
returns-else-index-length c =
    let rest = c.pop.new.self in
    dropped_last c.args.list.now rest c.in-Some.last c.args.index c.in-Some.ensures.value c.requires
    (subst (λ (n : ℕ). n ≤ c.args.index) c.length.ensures c.if-index-length.false)
