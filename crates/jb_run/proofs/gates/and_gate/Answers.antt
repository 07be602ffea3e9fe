use Rattle.std.proofs.Common.{◌∙◌}
use Rattle.jb_run.specs.Clauses.{clauses_of}
use Rattle.jb_run.proofs.GateLemmas.{and_gate_is, and_pushed}
use Rattle.jb_run.proofs.gates.and_gate.Goals as goal

pub returns-clause-gate : goal.returns-clause-gate
returns-clause-gate c named =
    and_gate_is c.args.formula.now c.push-3.new.self c.in_ok-both.both c.args.a c.args.b c.in_ok-both.ensures.lit
    (c.push-3.ensures.variables ∙ c.push-2.ensures.variables ∙ c.push.ensures.variables
    ∙ c.in_ok-both.ensures.variables)
    (and_pushed (clauses_of c.args.formula.now) (clauses_of c.fresh.new.self) (clauses_of c.push.new.self)
    (clauses_of c.push-2.new.self) (clauses_of c.push-3.new.self)
    c.in_ok-both.both c.args.a c.args.b c.opposite.result c.opposite-2.result c.opposite-3.result c.opposite-4.result
    c.in_ok-both.ensures.clauses c.opposite.ensures c.opposite-2.ensures c.opposite-3.ensures c.opposite-4.ensures
    c.in_ok-push.ensures.ok c.in_ok-push-2.ensures.ok c.in_ok-push-3.ensures.ok) named
