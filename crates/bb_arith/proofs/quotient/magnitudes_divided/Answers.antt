use Rattle.std.proofs.Common.{rules}
use Rattle.std.proofs.lemmas.Result.{IfOk-weaker}
use Rattle.bb_arith.specs.Calls.Division.{turned_number, IsDivision}
use Rattle.bb_arith.proofs.DivisionLemmas.{keeps_three, division_of_words}
use Rattle.bb_arith.proofs.WordLemmas.{word_grown}
use Rattle.bb_arith.proofs.quotient.magnitudes_divided.Goals as goal

pub returns-in_err-y-clause-keeps : goal.returns-in_err-y-clause-keeps
returns-in_err-y-clause-keeps g c =
    c.growth_laws.ensures.through c.args.formula.now c.turned.new.formula c.turned-2.new.formula
    c.turned.ensures.keeps c.turned-2.ensures.keeps

pub divided-requires : goal.divided-requires
divided-requires g c =
    let x = c.in_ok-x.ensures.gate in
    let y = c.in_ok-y.ensures.gate in (
      search rules,
      (
        search rules,
        (
          word_grown c.turned.new.formula c.turned-2.new.formula c.in_ok-x.x
              y.extends.continues.grows x.within,
          y.within,
        ),
      ),
    )

pub returns-clause-keeps : goal.returns-clause-keeps
returns-clause-keeps g c =
    keeps_three c.growth_laws.ensures.through c.args.formula.now c.turned.new.formula c.turned-2.new.formula
    c.divided.new.formula c.turned.ensures.keeps c.turned-2.ensures.keeps c.divided.ensures.keeps

pub returns-clause-gate : goal.returns-clause-gate
returns-clause-gate g c =
    let n = g.row.W in
    let old = c.args.formula.now in
    let new = c.divided.new.formula in
    let signs = c.args.signs in
    IfOk-weaker c.divided.result _
    (λ made. IsDivision n old new (turned_number n signs.0 c.args.a.now) (turned_number n signs.1 c.args.b.now)
    made.quotient made.remainder)
    (λ made gate. division_of_words c.extension_laws.ensures.through n old c.turned.new.formula c.turned-2.new.formula
    new c.in_ok-x.x c.in_ok-y.y made.quotient made.remainder _ _ c.in_ok-x.ensures.gate c.in_ok-y.ensures.gate
    gate)
    c.divided.ensures.gate
