use Rattle.std.proofs.Common.{rules, ◌<◌, ◌≤◌, ◌-◌, length, arith}
use Rattle.cn_clauses.specs.declared.lit.Lit.{Lit}
use Rattle.cn_clauses.specs.Formulas.{variables_of}
use Rattle.bb_arith.proofs.DivisionLemmas.{keeps_three}
use Rattle.bb_arith.proofs.SignedDivisionLemmas.{signed_quotient, signed_remainder, keeps_five}
use Rattle.bb_arith.proofs.WordLemmas.{bit_within, word_grown}
use Rattle.bb_arith.proofs.quotient.signed_division.Goals as goal

pub returns-in_err-some-clause-keeps : goal.returns-in_err-some-clause-keeps
returns-in_err-some-clause-keeps g c =
    c.growth_laws.ensures.through c.args.formula.now c.magnitudes_divided.new.formula c.disjunction.new.formula
    c.magnitudes_divided.ensures.keeps c.disjunction.ensures.keeps

pub returns-in_err-sign-clause-keeps : goal.returns-in_err-sign-clause-keeps
returns-in_err-sign-clause-keeps g c =
    keeps_three c.growth_laws.ensures.through c.args.formula.now c.magnitudes_divided.new.formula
    c.disjunction.new.formula c.xor.new.formula c.magnitudes_divided.ensures.keeps c.disjunction.ensures.keeps
    c.xor.ensures.keeps

pub turned_unless_none-requires : goal.turned_unless_none-requires
turned_unless_none-requires g c =
    let parts = c.in_ok-parts.ensures.gate in
    let some = c.in_ok-some.ensures.gate in
    let sign = c.in_ok-sign.ensures.gate in
    let two = some.extends.continues.grows in
    let three = sign.extends.continues.grows in
    let of_some = some.shows.within in (
      search rules,
      (
        (omega (arith, three, of_some), (sign.shows.within, tt)),
        word_grown c.magnitudes_divided.new.formula c.xor.new.formula c.in_ok-parts.parts.quotient
            (omega (arith, two, three)) parts.quotient_within,
      ),
    )

pub returns-in_err-quotient-clause-keeps : goal.returns-in_err-quotient-clause-keeps
returns-in_err-quotient-clause-keeps g c =
    let through = c.growth_laws.ensures.through in
    let old = c.args.formula.now in
    let third = c.xor.new.formula in
    through old third c.turned_unless_none.new.formula
    (keeps_three through old c.magnitudes_divided.new.formula c.disjunction.new.formula third
    c.magnitudes_divided.ensures.keeps c.disjunction.ensures.keeps c.xor.ensures.keeps)
    c.turned_unless_none.ensures.keeps

pub turned_unless_none-requires-2 : goal.turned_unless_none-requires-2
turned_unless_none-requires-2 g c =
    let n = g.row.W in
    let old = c.args.formula.now in
    let fourth = c.turned_unless_none.new.formula in
    let parts = c.in_ok-parts.ensures.gate in
    let some = c.in_ok-some.ensures.gate in
    let sign = c.in_ok-sign.ensures.gate in
    let one = parts.extends.continues.grows in
    let two = some.extends.continues.grows in
    let three = sign.extends.continues.grows in
    let four = c.in_ok-quotient.ensures.gate.extends.continues.grows in
    let of_some = some.shows.within in
    let d : Lit = record { 0 = 0 } in
    let wide = c.requires.wide in
    let grows : variables_of old ≤ variables_of fourth = omega (arith, one, two, three, four) in
    let in_a : n - 1 < length c.args.a.now = omega (arith, wide, c.told-a) in (
      search rules,
      (
        (
          omega (arith, three, four, of_some),
          (bit_within old fourth c.args.a.now (n - 1) d grows c.requires.first in_a, tt),
        ),
        word_grown c.magnitudes_divided.new.formula fourth c.in_ok-parts.parts.remainder
            (omega (arith, two, three, four)) parts.rest_within,
      ),
    )

pub returns-in_err-remainder-clause-keeps : goal.returns-in_err-remainder-clause-keeps
returns-in_err-remainder-clause-keeps g c =
    keeps_five c.growth_laws.ensures.through c.args.formula.now c.magnitudes_divided.new.formula
    c.disjunction.new.formula c.xor.new.formula c.turned_unless_none.new.formula
    c.turned_unless_none-2.new.formula c.magnitudes_divided.ensures.keeps c.disjunction.ensures.keeps
    c.xor.ensures.keeps c.turned_unless_none.ensures.keeps c.turned_unless_none-2.ensures.keeps

pub returns-clause-keeps : goal.returns-clause-keeps
returns-clause-keeps g c =
    keeps_five c.growth_laws.ensures.through c.args.formula.now c.magnitudes_divided.new.formula
    c.disjunction.new.formula c.xor.new.formula c.turned_unless_none.new.formula
    c.turned_unless_none-2.new.formula c.magnitudes_divided.ensures.keeps c.disjunction.ensures.keeps
    c.xor.ensures.keeps c.turned_unless_none.ensures.keeps c.turned_unless_none-2.ensures.keeps

pub returns-clause-quotient : goal.returns-clause-quotient
returns-clause-quotient g c =
    signed_quotient c.extension_laws.ensures.through g.row.W c.args.formula.now c.magnitudes_divided.new.formula
    c.disjunction.new.formula c.xor.new.formula c.turned_unless_none.new.formula
    c.turned_unless_none-2.new.formula c.args.a.now c.args.b.now record { 0 = 0 } c.in_ok-some.some
    c.in_ok-sign.sign c.in_ok-parts.parts.quotient c.in_ok-parts.parts.remainder c.in_ok-quotient.quotient
    c.in_ok-remainder.remainder c.told-a c.told-b c.requires.wide c.in_ok-parts.ensures.gate
    c.in_ok-some.ensures.gate c.in_ok-sign.ensures.gate c.in_ok-quotient.ensures.gate
    c.in_ok-remainder.ensures.gate

pub returns-clause-remainder : goal.returns-clause-remainder
returns-clause-remainder g c =
    signed_remainder c.extension_laws.ensures.through g.row.W c.args.formula.now c.magnitudes_divided.new.formula
    c.disjunction.new.formula c.xor.new.formula c.turned_unless_none.new.formula
    c.turned_unless_none-2.new.formula c.args.a.now c.args.b.now record { 0 = 0 } c.in_ok-some.some
    c.in_ok-sign.sign c.in_ok-parts.parts.quotient c.in_ok-parts.parts.remainder c.in_ok-quotient.quotient
    c.in_ok-remainder.remainder c.told-a c.told-b c.requires.wide c.in_ok-parts.ensures.gate
    c.in_ok-some.ensures.gate c.in_ok-sign.ensures.gate c.in_ok-quotient.ensures.gate
    c.in_ok-remainder.ensures.gate
