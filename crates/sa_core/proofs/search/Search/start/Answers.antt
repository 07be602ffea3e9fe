use Rattle.std.proofs.Common.{ℕ, sym, subst}
use Rattle.std.proofs.lemmas.Result.{IfOk-weaker}
use Rattle.sa_core.specs.Watching.{IsKept}
use Rattle.sa_core.specs.Calls.Start.{Starts}
use Rattle.sa_core.specs.Calls.Propagate.{Propagates}
use Rattle.jv_list.proofs.ElementLemmas.{none_from_test}
use Rattle.sa_core.proofs.search.Search.start.Goals as goal

pub returns-then-is_some-clause-ready : goal.returns-then-is_some-clause-ready
returns-then-is_some-clause-ready c =
    subst (λ (n : ℕ). IsKept n c.args.self.now.store c.start.new.watchers c.start.new.trail.steps)
    (sym c.in_ok-conflict.ensures.variables) c.in_ok-conflict.ensures.starts.kept

pub propagate-requires-clause-kept : goal.propagate-requires-clause-kept
propagate-requires-clause-kept c =
    subst (λ (n : ℕ). IsKept n c.args.self.now.store c.start.new.watchers c.start.new.trail.steps)
    (sym c.in_ok-conflict.ensures.variables) c.in_ok-conflict.ensures.starts.kept

pub propagate-requires-clause-guarded : goal.propagate-requires-clause-guarded
propagate-requires-clause-guarded c =
    let old = c.args.self.now in
    let starts =
    subst
    (Starts old.trail.variables old.store c.start.new.watchers old.trail.steps c.start.new.trail.steps)
    (none_from_test c.in_ok-conflict.conflict c.is_some.result c.is_some.ensures c.if-is_some.false)
    c.in_ok-conflict.ensures.starts in
    starts.started

pub returns-clause-ready : goal.returns-clause-ready
returns-clause-ready c =
    let old = c.args.self.now in
    let mid = c.start.new.trail in
    let new = c.propagate.new.trail in
    IfOk-weaker c.propagate.result
    (Propagates mid.variables old.store c.propagate.new.watchers mid.steps new.steps)
    (λ found. IsKept new.variables old.store c.propagate.new.watchers new.steps)
    (λ found p.
    subst (λ (n : ℕ). IsKept n old.store c.propagate.new.watchers new.steps) (sym c.propagate.ensures.variables) p.kept)
    c.propagate.ensures.propagates
