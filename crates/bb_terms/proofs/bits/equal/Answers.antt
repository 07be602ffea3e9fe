use Rattle.bb_terms.proofs.WordLemmas.{equal_gate}
use Rattle.bb_terms.proofs.bits.equal.Goals as goal

pub returns-in_err-some-clause-keeps : goal.returns-in_err-some-clause-keeps
returns-in_err-some-clause-keeps c =
    c.growth_laws.ensures.through c.args.formula.now c.bitwise.new.formula c.disjunction.new.formula
    c.bitwise.ensures.keeps c.disjunction.ensures.keeps

pub returns-clause-gate : goal.returns-clause-gate
returns-clause-gate c =
    equal_gate c.extension_laws.ensures.through c.literal_laws.ensures.opposite_value
    c.literal_laws.ensures.opposite_variable c.args.formula.now c.bitwise.new.formula c.disjunction.new.formula
    c.args.a.now c.args.b.now c.in_ok-differences.differences c.in_ok-some.some c.opposite.result c.opposite.ensures
    c.in_ok-differences.ensures.gate (rw c.as_slice.ensures at c.in_ok-some.ensures.gate)

pub returns-clause-keeps : goal.returns-clause-keeps
returns-clause-keeps c =
    c.growth_laws.ensures.through c.args.formula.now c.bitwise.new.formula c.disjunction.new.formula
    c.bitwise.ensures.keeps c.disjunction.ensures.keeps
