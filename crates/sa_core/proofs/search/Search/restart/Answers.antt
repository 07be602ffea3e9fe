use Rattle.std.proofs.Common.{ℕ, sym, subst}
use Rattle.sa_core.specs.TrailView.{lits_of}
use Rattle.sa_core.specs.Watching.{IsKept}
use Rattle.sa_core.proofs.GuardLemmas.{all_settled}
use Rattle.sa_core.proofs.ReadyLemmas.{kept_cut, ended_before, none_before}
use Rattle.sa_core.proofs.search.Search.restart.Goals as goal

pub returns-clause-ready : goal.returns-clause-ready
returns-clause-ready c =
    let old = c.args.self.now in
    let cut = c.cut.new.self in
    subst (λ (n : ℕ). IsKept n old.store old.watchers cut.steps) (sym c.cut.ensures.variables)
    (kept_cut old.trail.variables old.store old.watchers old.trail.steps cut.steps c.first_decision-from.result
    c.requires.ready c.cut.ensures.steps)

pub returns-clause-ended : goal.returns-clause-ended
returns-clause-ended c =
    let old = c.args.self.now in
    ended_before old.trail.variables old.store old.watchers old.trail.steps c.cut.new.self.steps
    c.first_decision-from.result c.requires.ready c.cut.ensures.steps 0 c.first_decision-from.ensures

pub returns-clause-settled : goal.returns-clause-settled
returns-clause-settled c =
    let old = c.args.self.now in
    all_settled old.store old.watchers.pairs (lits_of c.cut.new.self.steps) c.requires.ready.stored.count
    (ended_before old.trail.variables old.store old.watchers old.trail.steps c.cut.new.self.steps
    c.first_decision-from.result c.requires.ready c.cut.ensures.steps 0 c.first_decision-from.ensures)

pub returns-clause-none : goal.returns-clause-none
returns-clause-none c =
    none_before c.args.self.now.trail.steps c.cut.new.self.steps c.first_decision-from.result c.cut.ensures.steps
    c.first_decision-from.ensures
