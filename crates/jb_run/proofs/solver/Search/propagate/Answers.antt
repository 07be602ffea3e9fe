-- Another pass adds values to those before.
use Rattle.jb_run.proofs.PassLemmas.{Adds-again, Settles-still, Settles-conflict}
use Rattle.jb_run.proofs.solver.Search.propagate.Goals as goal

pub returns-in-Still : goal.returns-in-Still
returns-in-Still c =
    Settles-still c.args.self.now c.loop.self c.pass.new.self c.args.clauses.now c.in_ok-pass.field-0 c.in-Still.is
    c.loop.invariant c.in_ok-pass.ensures

pub loop-preserved : goal.loop-preserved
loop-preserved c =
    Adds-again c.args.self.now c.loop.self c.pass.new.self c.args.clauses.now c.loop.invariant c.in_ok-pass.ensures.adds

pub returns-in-Conflict : goal.returns-in-Conflict
returns-in-Conflict c =
    Settles-conflict c.args.self.now c.loop.self c.pass.new.self c.args.clauses.now c.in_ok-pass.field-0
    c.in-Conflict.is c.loop.invariant c.in_ok-pass.ensures
