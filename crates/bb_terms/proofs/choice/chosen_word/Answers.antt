use Rattle.std.proofs.Common.{◌<◌, ◌+◌, List, length, take, sym, subst, arith}
use Rattle.cn_clauses.specs.declared.lit.Lit.{Lit}
use Rattle.bb_terms.specs.Calls.Words.{IsWord, chosen_number}
use Rattle.bb_terms.proofs.WordLemmas.{word_next, choice_more}
use Rattle.bb_terms.proofs.choice.chosen_word.Goals as goal

pub returns-in_err-lit-clause-keeps : goal.returns-in_err-lit-clause-keeps
returns-in_err-lit-clause-keeps c =
    let laws = c.growth_laws.ensures in
    laws.through c.args.formula.now c.loop-i.formula c.mux.new.formula
    (laws.extends c.args.formula.now c.loop-i.formula c.loop-i.invariant.gate.extends) c.mux.ensures.keeps

pub returns-in_err-add-clause-keeps : goal.returns-in_err-add-clause-keeps
returns-in_err-add-clause-keeps c =
    let laws = c.growth_laws.ensures in
    laws.through c.args.formula.now c.loop-i.formula c.mux.new.formula
    (laws.extends c.args.formula.now c.loop-i.formula c.loop-i.invariant.gate.extends) c.mux.ensures.keeps

pub loop-i-preserved : goal.loop-i-preserved
loop-i-preserved c =
    let i = c.loop-i.i in
    let a = c.args.a.now in
    let b = c.args.b.now in
    let choice = c.args.choice in
    let d : Lit = record { 0 = 0 } in
    let in_a : i < length a = c.loop-i-test.true in
    let in_b : i < length b = let even = c.requires.even in omega (arith, in_a, even) in
    let next = chosen_number choice (take (i + 1) a) (take (i + 1) b) in
    let word = word_next c.extension_laws.ensures.through c.args.formula.now c.loop-i.formula c.mux.new.formula i
    c.loop-i.lits c.in_ok-lit.lit _ _ next (choice_more a b i d in_a in_b choice) c.loop-i.invariant
    c.in_ok-lit.ensures.gate in
    subst (λ (lits : List Lit). IsWord (i + 1) c.args.formula.now c.mux.new.formula lits next)
    (sym c.in_ok-add.ensures.ok) word
