-- What the clause asks decides what is found.
use Rattle.std.proofs.Common.{subst}
use Rattle.jb_run.specs.declared.solver.Asks.{Asks}
use Rattle.jb_run.specs.Solved.{IsAsked}
use Rattle.jb_run.proofs.PassLemmas.{Passes-nothing, Passes-false, Passes-literal}
use Rattle.jb_run.proofs.solver.Search.visit.Goals as goal

pub returns-in-Nothing : goal.returns-in-Nothing
returns-in-Nothing c =
    Passes-nothing c.args.self.now c.args.clause.now
    (subst (λ z. IsAsked z c.args.clause.now.lits.items Asks.Nothing) c.as_slice.ensures.value c.in-Nothing.ensures)

pub returns-in-Conflict : goal.returns-in-Conflict
returns-in-Conflict c =
    Passes-false c.args.self.now c.args.clause.now
    (subst (λ z. IsAsked z c.args.clause.now.lits.items Asks.Conflict) c.as_slice.ensures.value c.in-Conflict.ensures)

pub returns-in_ok-assign-in-Literal : goal.returns-in_ok-assign-in-Literal
returns-in_ok-assign-in-Literal c =
    Passes-literal c.args.self.now c.assign.new.self c.args.clause.now c.in-Literal.lit
    (subst (λ z. IsAsked z c.args.clause.now.lits.items (Asks.Literal c.in-Literal.lit)) c.as_slice.ensures.value
    c.in-Literal.ensures)
    c.in_ok-assign-in-Literal.ensures.values c.in_ok-assign-in-Literal.ensures.trail
