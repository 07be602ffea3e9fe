-- What is found in a clause is joined to what was found before.
use Rattle.std.proofs.Common.{◌+◌, [], ◌∷◌, take, drop, sym, subst}
use Rattle.jb_run.specs.Solved.{Passes}
use Rattle.jb_run.proofs.PassLemmas.{Passes-none, Passes-still, Passes-changed, Passes-conflict}
use Rattle.jb_run.proofs.solver.Search.pass.Goals as goal
use Rattle.jb_run.proofs.solver.Search.pass.Goals.{in-Still, in-Changed}
use Rattle.jv_list.proofs.PlaceLemmas.{split_with, take_with}

pub loop-clause-init : goal.loop-clause-init
loop-clause-init c = Passes-none c.args.self.now

pub returns-in-Conflict : goal.returns-in-Conflict
returns-in-Conflict c =
    Passes-conflict c.args.self.now c.loop-clause.self c.visit.new.self
    (take c.loop-clause.clause-index c.args.clauses.now)
    (drop (c.loop-clause.clause-index + 1) c.args.clauses.now) c.args.clauses.now c.clause-item.result
    c.loop-clause.found
    (split_with c.args.clauses.now c.loop-clause.clause-index c.clause-item.result c.loop-clause-test.true
    c.clause-item.is)
    c.loop-clause.invariant
    (subst (Passes c.loop-clause.self c.visit.new.self (c.clause-item.result ∷ [])) c.in-Conflict.is
    c.in_ok-visit.ensures)

pub loop-clause-preserved : goal.loop-clause-preserved
loop-clause-preserved c =
    let more =
    take_with c.args.clauses.now c.loop-clause.clause-index c.clause-item.result c.loop-clause-test.true
    c.clause-item.is in
    elim c.match-branch-2.branch [
      | in-Still w ↦
          subst (Passes c.args.self.now c.visit.new.self (take (c.loop-clause.clause-index + 1) c.args.clauses.now))
          (sym w.found-is)
          (Passes-still c.args.self.now c.loop-clause.self c.visit.new.self
          (take c.loop-clause.clause-index c.args.clauses.now) (c.clause-item.result ∷ [])
          (take (c.loop-clause.clause-index + 1) c.args.clauses.now) c.loop-clause.found more
          c.loop-clause.invariant
          (subst (Passes c.loop-clause.self c.visit.new.self (c.clause-item.result ∷ [])) w.in-Still.is
          c.in_ok-visit.ensures))
      | in-Changed w ↦
          subst (Passes c.args.self.now c.visit.new.self (take (c.loop-clause.clause-index + 1) c.args.clauses.now))
          (sym w.found-is)
          (Passes-changed c.args.self.now c.loop-clause.self c.visit.new.self
          (take c.loop-clause.clause-index c.args.clauses.now) (c.clause-item.result ∷ [])
          (take (c.loop-clause.clause-index + 1) c.args.clauses.now) c.loop-clause.found more
          c.loop-clause.invariant
          (subst (Passes c.loop-clause.self c.visit.new.self (c.clause-item.result ∷ [])) w.in-Changed.is
          c.in_ok-visit.ensures))
    ]
