use Rattle.std.proofs.Common.{◌+◌, ◌%◌, ◌^◌, List, sym, subst}
use Rattle.cn_clauses.specs.declared.lit.Lit.{Lit}
use Rattle.bb_terms.specs.Calls.Words.{IsWord}
use Rattle.bb_terms.proofs.NumberLemmas.{constant_next}
use Rattle.bb_terms.proofs.WordLemmas.{word_next}
use Rattle.bb_terms.proofs.constant.constant_word.Goals as goal

pub returns-in_err-lit-clause-keeps : goal.returns-in_err-lit-clause-keeps
returns-in_err-lit-clause-keeps c =
    let laws = c.growth_laws.ensures in
    laws.through c.args.formula.now c.loop-i.formula c.constant_lit.new.formula
    (laws.extends c.args.formula.now c.loop-i.formula c.loop-i.invariant.gate.extends) c.constant_lit.ensures.keeps

pub returns-in_err-add-clause-keeps : goal.returns-in_err-add-clause-keeps
returns-in_err-add-clause-keeps c =
    let laws = c.growth_laws.ensures in
    laws.through c.args.formula.now c.loop-i.formula c.constant_lit.new.formula
    (laws.extends c.args.formula.now c.loop-i.formula c.loop-i.invariant.gate.extends) c.constant_lit.ensures.keeps

pub loop-i-preserved : goal.loop-i-preserved
loop-i-preserved c =
    let i = c.loop-i.i in
    let k = c.args.number in
    let word = word_next c.extension_laws.ensures.through c.args.formula.now c.loop-i.formula
    c.constant_lit.new.formula i c.loop-i.lits c.in_ok-lit.lit _ _ (λ w. k % 2 ^ (i + 1))
    (λ w. constant_next k i) c.loop-i.invariant c.in_ok-lit.ensures.gate in
    subst (λ (lits : List Lit). IsWord (i + 1) c.args.formula.now c.constant_lit.new.formula lits
    (λ w. k % 2 ^ (i + 1)))
    (sym c.in_ok-add.ensures.ok) word
