use Rattle.std.proofs.Common.{◌<◌, ◌≤◌, ◌+◌, length, take, ◌∙◌, arith}
use Rattle.std.proofs.lemmas.List.{length-set}
use Rattle.cn_clauses.specs.declared.lit.Lit.{Lit}
use Rattle.cn_clauses.specs.Formulas.{variables_of}
use Rattle.bb_arith.proofs.WordLemmas.{bit_within, three_of}
use Rattle.bb_arith.proofs.ChoiceLemmas.{chosen_number, word_next, word_whole, choice_more, choice_whole, choice_size}
use Rattle.bb_arith.proofs.choice.choose.Goals as goal

pub mux-requires : goal.mux-requires
mux-requires g c =
    let i = c.loop-i.i in
    let old = c.args.formula.now in
    let mid = c.loop-i.formula in
    let a = c.args.a.now in
    let b = c.args.b.now in
    let d : Lit = record { 0 = 0 } in
    let lt = c.loop-i-test.true in
    let in_a : i < length a = omega (arith, lt, c.told-a) in
    let in_b : i < length b = omega (arith, lt, c.told-b) in
    let grows : variables_of old ≤ variables_of mid = c.loop-i.invariant.gate.extends.continues.grows in
    let of_choice = c.requires.choice.0 in
    three_of mid _ _ _ (omega (arith, grows, of_choice)) (bit_within old mid a i d grows c.requires.first in_a)
    (bit_within old mid b i d grows c.requires.second in_b)

pub returns-in_err-made-clause-keeps : goal.returns-in_err-made-clause-keeps
returns-in_err-made-clause-keeps g c =
    let laws = c.growth_laws.ensures in
    let old = c.args.formula.now in
    let mid = c.loop-i.formula in
    laws.through old mid c.mux.new.formula (laws.extends old mid c.loop-i.invariant.gate.extends) c.mux.ensures.keeps

pub loop-i-preserved : goal.loop-i-preserved
loop-i-preserved g c =
    let i = c.loop-i.i in
    let old = c.args.formula.now in
    let mid = c.loop-i.formula in
    let new = c.mux.new.formula in
    let a = c.args.a.now in
    let b = c.args.b.now in
    let made = c.loop-i.made in
    let choice = c.args.choice in
    let lit = c.in_ok-made.field-0 in
    let d : Lit = record { 0 = 0 } in
    let lt = c.loop-i-test.true in
    let same = c.loop-i.invariant.width in
    let in_a : i < length a = omega (arith, lt, c.told-a) in
    let in_b : i < length b = omega (arith, lt, c.told-b) in
    record {
      gate = word_next c.extension_laws.ensures.through old mid new i made lit _ _
          (chosen_number choice (take (i + 1) a) (take (i + 1) b)) (omega (arith, in_a, same))
          (choice_more choice a b i d in_a in_b) c.loop-i.invariant.gate c.in_ok-made.ensures.gate;
      width = length-set made i lit ∙ same;
      size = choice_size i old mid new c.loop-i.invariant.size c.mux.ensures.size;
    }

pub returns-clause-gate : goal.returns-clause-gate
returns-clause-gate g c =
    let i = c.loop-i.i in
    let a = c.args.a.now in
    let b = c.args.b.now in
    let choice = c.args.choice in
    let past = c.loop-i-test.false in
    let same = c.loop-i.invariant.width in
    let le_a : length a ≤ i = omega (arith, past, c.told-a) in
    let le_b : length b ≤ i = omega (arith, past, c.told-b) in
    word_whole c.args.formula.now c.loop-i.formula i c.loop-i.made (chosen_number choice (take i a) (take i b))
    (chosen_number choice a b)
    (omega (arith, le_a, same)) (choice_whole choice a b i le_a le_b) c.loop-i.invariant.gate
