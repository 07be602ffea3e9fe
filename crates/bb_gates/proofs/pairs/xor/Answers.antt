use Rattle.std.proofs.Common.{true}
use Rattle.cn_clauses.specs.Literals.{lit_value}
use Rattle.bb_gates.specs.Values.{differ, of_two}
use Rattle.bb_gates.proofs.GateLemmas.{made_same}
use Rattle.bb_gates.proofs.ValueLemmas.{differ_opposite}
use Rattle.bb_gates.proofs.pairs.xor.Goals as goal

pub returns-in-Opposite-clause-gate : goal.returns-in-Opposite-clause-gate
returns-in-Opposite-clause-gate c =
    made_same c.constant_lit-in-Opposite.result c.args.formula.now c.constant_lit-in-Opposite.new.formula (λ w. true)
    (of_two differ c.args.a c.args.b) c.constant_lit-in-Opposite.ensures.gate
    (λ w h. differ_opposite (lit_value w c.args.a) (lit_value w c.args.b) (c.in-Opposite.ensures w))
