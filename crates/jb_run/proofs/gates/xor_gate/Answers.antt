use Rattle.std.proofs.Common.{◌∙◌}
use Rattle.jb_run.specs.Clauses.{clauses_of}
use Rattle.jb_run.proofs.GateLemmas.{xor_gate_is, xor_pushed}
use Rattle.jb_run.proofs.gates.xor_gate.Goals as goal

pub returns-clause-gate : goal.returns-clause-gate
returns-clause-gate c named =
    xor_gate_is c.args.formula.now c.push-4.new.self c.in_ok-differ.differ c.args.a c.args.b c.in_ok-differ.ensures.lit
    (c.push-4.ensures.variables ∙ c.push-3.ensures.variables ∙ c.push-2.ensures.variables ∙ c.push.ensures.variables
    ∙ c.in_ok-differ.ensures.variables)
    (xor_pushed (clauses_of c.args.formula.now) (clauses_of c.fresh.new.self) (clauses_of c.push.new.self)
    (clauses_of c.push-2.new.self) (clauses_of c.push-3.new.self) (clauses_of c.push-4.new.self)
    c.in_ok-differ.differ c.args.a c.args.b c.opposite.result c.opposite-2.result c.opposite-3.result
    c.opposite-4.result c.opposite-5.result c.opposite-6.result
    c.in_ok-differ.ensures.clauses c.opposite.ensures c.opposite-2.ensures c.opposite-3.ensures c.opposite-4.ensures
    c.opposite-5.ensures c.opposite-6.ensures
    c.in_ok-push.ensures.ok c.in_ok-push-2.ensures.ok c.in_ok-push-3.ensures.ok c.in_ok-push-4.ensures.ok) named
