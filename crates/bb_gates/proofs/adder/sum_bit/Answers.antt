use Rattle.std.proofs.Common.{Bool, sym, ap, ◌∙◌}
use Rattle.cn_clauses.specs.Literals.{lit_value}
use Rattle.bb_gates.specs.Values.{differ, parity, of_two, of_three}
use Rattle.bb_gates.proofs.GateLemmas.{gate_same, gate_opposite}
use Rattle.bb_gates.proofs.adder.sum_bit.Goals as goal

pub returns-then-rest-clause-gate : goal.returns-then-rest-clause-gate
returns-then-rest-clause-gate c =
    let rest = c.in-Some-constant_among.rest in
    let is = c.in-Some-constant_among.ensures in
    gate_opposite c.args.formula.now c.xor.new.formula c.in_ok-sum.sum c.opposed-then-rest.result
    (of_two differ rest.x rest.y) (of_three parity c.args.a c.args.b c.args.c) c.in_ok-sum.ensures.gate
    c.opposed-then-rest.ensures.variable c.opposed-then-rest.ensures.value
    (λ w h. sym (is.sum w h
    ∙ ap (λ (x : Bool). parity x (lit_value w rest.x) (lit_value w rest.y)) c.if-rest.true))

pub returns-else-rest-clause-gate : goal.returns-else-rest-clause-gate
returns-else-rest-clause-gate c =
    let rest = c.in-Some-constant_among.rest in
    let is = c.in-Some-constant_among.ensures in
    gate_same c.args.formula.now c.xor.new.formula c.in_ok-sum.sum (of_two differ rest.x rest.y)
    (of_three parity c.args.a c.args.b c.args.c) c.in_ok-sum.ensures.gate
    (λ w h. sym (is.sum w h
    ∙ ap (λ (x : Bool). parity x (lit_value w rest.x) (lit_value w rest.y)) c.if-rest.false))
