use Rattle.bb_arith.proofs.DivisionLemmas.{reduced_gate, keeps_three}
use Rattle.bb_arith.proofs.quotient.reduced.Goals as goal

pub returns-clause-gate : goal.returns-clause-gate
returns-clause-gate g c =
    reduced_gate c.extension_laws.ensures.through c.value_laws.ensures.later c.value_laws.ensures.opposite g.row.W
    c.args.formula.now c.below.new.formula c.sub.new.formula c.choose.new.formula c.args.word.now
    c.args.divisor.now c.in_ok-shorter.shorter c.in_ok-rest.rest c.in_ok-less.less c.opposite.result
    c.opposite.ensures c.in_ok-less.ensures.gate c.in_ok-shorter.ensures.gate c.in_ok-rest.ensures.gate

pub returns-in_err-shorter-clause-keeps : goal.returns-in_err-shorter-clause-keeps
returns-in_err-shorter-clause-keeps g c =
    c.growth_laws.ensures.through c.args.formula.now c.below.new.formula c.sub.new.formula c.below.ensures.keeps
    c.sub.ensures.keeps

pub returns-in_err-rest-clause-keeps : goal.returns-in_err-rest-clause-keeps
returns-in_err-rest-clause-keeps g c =
    keeps_three c.growth_laws.ensures.through c.args.formula.now c.below.new.formula c.sub.new.formula
    c.choose.new.formula c.below.ensures.keeps c.sub.ensures.keeps c.choose.ensures.keeps

pub returns-clause-keeps : goal.returns-clause-keeps
returns-clause-keeps g c =
    keeps_three c.growth_laws.ensures.through c.args.formula.now c.below.new.formula c.sub.new.formula
    c.choose.new.formula c.below.ensures.keeps c.sub.ensures.keeps c.choose.ensures.keeps
