use Rattle.std.proofs.Common.{rules, ◌^◌, ◌-◌, ◌∙◌, ◌<◌, ◌≤◌, length, arith}
use Rattle.cn_clauses.specs.declared.lit.Lit.{Lit}
use Rattle.cn_clauses.specs.Formulas.{variables_of}
use Rattle.bb_arith.proofs.WordLemmas.{bit_within, word_grown}
use Rattle.bb_arith.proofs.PlaceLemmas.{repeated_within, zeros_below}
use Rattle.bb_arith.proofs.SumLemmas.{constant_size}
use Rattle.bb_arith.proofs.ProductLemmas.{product_start, product_more, product_whole, product_size, first_size}
use Rattle.bb_arith.proofs.product.mul.Goals as goal

pub loop-i-init : goal.loop-i-init
loop-i-init g c =
    let old = c.args.formula.now in
    let new = c.constant_lit.new.formula in
    let gate = c.in_ok-zero.ensures.gate in
    record {
      gate = product_start old new g.row.W c.args.a.now c.args.b.now c.in_ok-zero.zero gate;
      zero = gate.shows;
      size = first_size g.row.W old new (constant_size old new c.constant_lit.ensures.size);
    }

pub choose-requires : goal.choose-requires
choose-requires g c =
    let i = c.loop-i.i in
    let old = c.args.formula.now in
    let mid = c.loop-i.formula in
    let b = c.args.b.now in
    let d : Lit = record { 0 = 0 } in
    let lt = c.loop-i-test.true in
    let in_b : i < length b = omega (arith, lt, c.told-b) in
    let grows : variables_of old ≤ variables_of mid = c.loop-i.invariant.gate.extends.continues.grows in
    let zero = c.loop-i.invariant.zero.within in (
      search rules,
      (
        (bit_within old mid b i d grows c.requires.second in_b, tt),
        (
          c.moved_up-moved.ensures.within mid (word_grown old mid c.args.a.now grows c.requires.first) (zero, tt),
          repeated_within mid g.row.W c.in_ok-zero.zero zero,
        ),
      ),
    )

pub returns-in_err-row-clause-keeps : goal.returns-in_err-row-clause-keeps
returns-in_err-row-clause-keeps g c =
    let laws = c.growth_laws.ensures in
    let old = c.args.formula.now in
    let mid = c.loop-i.formula in
    laws.through old mid c.choose.new.formula (laws.extends old mid c.loop-i.invariant.gate.extends)
    c.choose.ensures.keeps

pub add-requires : goal.add-requires
add-requires g c =
    let mid = c.loop-i.formula in
    let row = c.in_ok-row.ensures.gate in (
      search rules,
      (
        word_grown mid c.choose.new.formula c.loop-i.product row.extends.continues.grows
            c.loop-i.invariant.gate.within,
        row.within,
      ),
    )

pub returns-in_err-product-clause-keeps : goal.returns-in_err-product-clause-keeps
returns-in_err-product-clause-keeps g c =
    let laws = c.growth_laws.ensures in
    let old = c.args.formula.now in
    let mid = c.loop-i.formula in
    let between = c.choose.new.formula in
    laws.through old between c.add.new.formula
    (laws.through old mid between (laws.extends old mid c.loop-i.invariant.gate.extends) c.choose.ensures.keeps)
    c.add.ensures.keeps

pub loop-i-preserved : goal.loop-i-preserved
loop-i-preserved g c =
    let laws = c.extension_laws.ensures in
    let i = c.loop-i.i in
    let n = g.row.W in
    let old = c.args.formula.now in
    let mid = c.loop-i.formula in
    let between = c.choose.new.formula in
    let new = c.add.new.formula in
    let a = c.args.a.now in
    let b = c.args.b.now in
    let zero = c.in_ok-zero.zero in
    let moved = c.moved_up-moved.result in
    let row = c.in_ok-row.row in
    let d : Lit = record { 0 = 0 } in
    let lt = c.loop-i-test.true in
    let in_b : i < length b = omega (arith, lt, c.told-b) in
    let zeros = c.loop-i.invariant.zero in
    let chosen = c.in_ok-row.ensures.gate in
    let last = c.in_ok-product.ensures.gate in
    record {
      gate = product_more laws.through n i old mid between new a b d zero c.loop-i.product moved row
          c.in_ok-product.product in_b c.loop-i.invariant.gate zeros
          (λ w none. c.moved_up-moved.ensures.value w ∙ zeros_below _ (2 ^ i - 1) _ none) chosen last;
      zero = c.value_laws.ensures.later mid new zero _
          (laws.continues_through mid between new chosen.extends.continues last.extends.continues) zeros;
      size = product_size n i old mid between new c.loop-i.invariant.size c.choose.ensures.size c.add.ensures.size;
    }

pub returns-clause-gate : goal.returns-clause-gate
returns-clause-gate g c =
    let past = c.loop-i-test.false in
    product_whole g.row.W c.loop-i.i c.args.formula.now c.loop-i.formula c.args.a.now c.args.b.now c.loop-i.product
    (omega (arith, past, c.told-b)) c.loop-i.invariant.gate
