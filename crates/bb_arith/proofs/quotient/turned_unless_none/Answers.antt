use Rattle.std.proofs.Common.{rules, ap, ◌∙◌, arith, if◌then◌else◌, ℕ}
use Rattle.std.proofs.Math.ListN.{replicate}
use Rattle.std.proofs.lemmas.Result.{IfOk-weaker}
use Rattle.cn_clauses.specs.Literals.{lit_value}
use Rattle.bb_arith.specs.Words.{number_of, IsWordGate}
use Rattle.bb_arith.specs.Calls.Division.{turned_number, turned_or_zero}
use Rattle.bb_arith.proofs.ChoiceLemmas.{word_after}
use Rattle.bb_arith.proofs.DivisionLemmas.{keeps_three}
use Rattle.bb_arith.proofs.PlaceLemmas.{number_zeros, repeated_within}
use Rattle.bb_arith.proofs.quotient.turned_unless_none.Goals as goal

pub returns-in_err-answer-clause-keeps : goal.returns-in_err-answer-clause-keeps
returns-in_err-answer-clause-keeps g c =
    c.growth_laws.ensures.through c.args.formula.now c.constant_lit.new.formula c.turned.new.formula
    c.constant_lit.ensures.keeps c.turned.ensures.keeps

pub choose-requires : goal.choose-requires
choose-requires g c =
    let old = c.args.formula.now in
    let first = c.constant_lit.new.formula in
    let second = c.turned.new.formula in
    let zero = c.in_ok-zero.ensures.gate in
    let answer = c.in_ok-answer.ensures.gate in
    let one = zero.extends.continues.grows in
    let two = answer.extends.continues.grows in
    let of_some = c.requires.signs.0 in
    let of_zero = zero.shows.within in (
      search rules,
      (
        (omega (arith, one, two, of_some), tt),
        (answer.within, repeated_within second g.row.W c.in_ok-zero.zero (omega (arith, two, of_zero))),
      ),
    )

pub returns-clause-keeps : goal.returns-clause-keeps
returns-clause-keeps g c =
    keeps_three c.growth_laws.ensures.through c.args.formula.now c.constant_lit.new.formula c.turned.new.formula
    c.choose.new.formula c.constant_lit.ensures.keeps c.turned.ensures.keeps c.choose.ensures.keeps

pub returns-clause-gate : goal.returns-clause-gate
returns-clause-gate g c =
    let n = g.row.W in
    let through = c.extension_laws.ensures.through in
    let old = c.args.formula.now in
    let first = c.constant_lit.new.formula in
    let second = c.turned.new.formula in
    let new = c.choose.new.formula in
    let word = c.args.word.now in
    let some = c.args.some in
    let sign = c.args.sign in
    let zero = c.in_ok-zero.ensures.gate in
    let answer = c.in_ok-answer.ensures.gate in
    let none = replicate n c.in_ok-zero.zero in
    IfOk-weaker c.choose.result _ (λ lits. IsWordGate old new lits (turned_or_zero n some sign word))
    (λ lits gate. word_after through old second new lits _ (turned_or_zero n some sign word)
    (through old first second zero.extends answer.extends)
    (λ w h. ap (λ (m : ℕ). if lit_value w some then m else number_of w none) (answer.is w h)
    ∙ ap (λ (m : ℕ). if lit_value w some then turned_number n sign word w else m)
    (number_zeros w n c.in_ok-zero.zero (zero.shows.is w (answer.extends.keeps w h)))) gate)
    c.choose.ensures.gate
