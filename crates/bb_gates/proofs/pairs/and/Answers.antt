use Rattle.std.proofs.Common.{false}
use Rattle.cn_clauses.specs.Literals.{lit_value}
use Rattle.bb_gates.specs.Values.{both, of_two}
use Rattle.bb_gates.proofs.GateLemmas.{made_same}
use Rattle.bb_gates.proofs.ValueLemmas.{both_opposite}
use Rattle.bb_gates.proofs.pairs.and.Goals as goal

pub returns-in-Opposite-clause-gate : goal.returns-in-Opposite-clause-gate
returns-in-Opposite-clause-gate c =
    made_same c.constant_lit.result c.args.formula.now c.constant_lit.new.formula (λ w. false)
    (of_two both c.args.a c.args.b) c.constant_lit.ensures.gate
    (λ w h. both_opposite (lit_value w c.args.a) (lit_value w c.args.b) (c.in-Opposite.ensures w))
