use Rattle.std.proofs.Common.{rules, ◌+◌, ◌-◌, ◌%◌, ◌^◌, true}
use Rattle.std.proofs.lemmas.Result.{IfOk-weaker}
use Rattle.bb_arith.specs.Words.{number_of, IsWordGate}
use Rattle.jv_list.specs.Numbers.{bit_number}
use Rattle.bb_arith.proofs.SumLemmas.{difference, word_same}
use Rattle.bb_arith.proofs.sum.sub.Goals as goal

pub returns-clause-gate : goal.returns-clause-gate
returns-clause-gate g c =
    let a = c.args.a.now in
    let b = c.args.b.now in
    let n = g.row.W in
    let turned = c.opposites-turned.result in
    let old = c.args.formula.now in
    let new = c.sum_of.new.formula in
    IfOk-weaker c.sum_of.result
    (λ lits. IsWordGate old new lits (λ w. (number_of w a + number_of w turned + bit_number true) % 2 ^ n))
    (λ lits. IsWordGate old new lits (λ w. (number_of w a + (2 ^ n - number_of w b)) % 2 ^ n))
    (λ lits gate. word_same old new lits (λ w. (number_of w a + number_of w turned + bit_number true) % 2 ^ n)
    (λ w. (number_of w a + (2 ^ n - number_of w b)) % 2 ^ n)
    (λ w. difference n w a b turned (c.opposites-turned.ensures.value w)) gate)
    c.sum_of.ensures.gate

pub sum_of-requires : goal.sum_of-requires
sum_of-requires g c =
    (search rules, (c.requires.first, c.opposites-turned.ensures.within c.args.formula.now c.requires.second))
