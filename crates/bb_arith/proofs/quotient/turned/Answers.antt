use Rattle.std.proofs.Common.{rules, ◌≤◌, ◌+◌, ◌-◌, ◌%◌, ◌^◌, ℕ, ap, ◌∙◌, arith, if◌then◌else◌}
use Rattle.std.proofs.lemmas.Result.{IfOk-weaker}
use Rattle.cn_clauses.specs.Literals.{lit_value}
use Rattle.cn_clauses.specs.Formulas.{variables_of}
use Rattle.bb_arith.specs.Words.{number_of, IsWordGate}
use Rattle.bb_arith.specs.Calls.Division.{turned_number}
use Rattle.bb_arith.proofs.ChoiceLemmas.{word_after}
use Rattle.bb_arith.proofs.PlaceLemmas.{number_zeros}
use Rattle.bb_arith.proofs.WordLemmas.{word_grown}
use Rattle.bb_arith.proofs.quotient.turned.Goals as goal

pub returns-in_err-negative-clause-keeps : goal.returns-in_err-negative-clause-keeps
returns-in_err-negative-clause-keeps g c =
    c.growth_laws.ensures.through c.args.formula.now c.constant_lit.new.formula c.sub.new.formula
    c.constant_lit.ensures.keeps c.sub.ensures.keeps

pub choose-requires : goal.choose-requires
choose-requires g c =
    let old = c.args.formula.now in
    let second = c.sub.new.formula in
    let negative = c.in_ok-negative.ensures.gate in
    let one = c.in_ok-zero.ensures.gate.extends.continues.grows in
    let two = negative.extends.continues.grows in
    let grows : variables_of old ≤ variables_of second = omega (arith, one, two) in
    let of_choice = c.requires.choice.0 in (
      search rules,
      (
        (omega (arith, grows, of_choice), tt),
        (negative.within, word_grown old second c.args.word.now grows c.requires.word),
      ),
    )

pub returns-clause-keeps : goal.returns-clause-keeps
returns-clause-keeps g c =
    let laws = c.growth_laws.ensures in
    let old = c.args.formula.now in
    let first = c.constant_lit.new.formula in
    let second = c.sub.new.formula in
    laws.through old second c.choose.new.formula
    (laws.through old first second c.constant_lit.ensures.keeps c.sub.ensures.keeps) c.choose.ensures.keeps

pub returns-clause-gate : goal.returns-clause-gate
returns-clause-gate g c =
    let n = g.row.W in
    let through = c.extension_laws.ensures.through in
    let old = c.args.formula.now in
    let first = c.constant_lit.new.formula in
    let second = c.sub.new.formula in
    let new = c.choose.new.formula in
    let word = c.args.word.now in
    let choice = c.args.choice in
    let zero = c.in_ok-zero.ensures.gate in
    let negative = c.in_ok-negative.ensures.gate in
    IfOk-weaker c.choose.result _ (λ lits. IsWordGate old new lits (turned_number n choice word))
    (λ lits gate. word_after through old second new lits _ (turned_number n choice word)
    (through old first second zero.extends negative.extends)
    (λ w h. ap (λ (m : ℕ). if lit_value w choice then m else number_of w word)
    (negative.is w h ∙ ap (λ (m : ℕ). (m + (2 ^ n - number_of w word)) % 2 ^ n)
    (number_zeros w n c.in_ok-zero.zero (zero.shows.is w (negative.extends.keeps w h))))) gate)
    c.choose.ensures.gate
