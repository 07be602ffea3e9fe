use Rattle.std.proofs.Common.{false}
use Rattle.bb_gates.specs.Values.{any_of}
use Rattle.bb_gates.specs.Calls.Chain.{all_signed}
use Rattle.bb_gates.proofs.GateLemmas.{gate_opposite}
use Rattle.bb_gates.proofs.ChainLemmas.{not_all_false}
use Rattle.bb_gates.proofs.slices.disjunction.Goals as goal

pub returns-clause-gate : goal.returns-clause-gate
returns-clause-gate c =
    let lits = c.args.lits.now in
    gate_opposite c.args.formula.now c.chain.new.formula c.in_ok-chain.field-0 c.opposed.result
    (all_signed false lits) (any_of lits) c.in_ok-chain.ensures.gate c.opposed.ensures.variable
    c.opposed.ensures.value (λ w h. not_all_false c.literal_laws.ensures.opposite_value w lits)
