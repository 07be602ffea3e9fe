use Rattle.std.proofs.Common.{◌<◌, length, arith}
use Rattle.cn_clauses.specs.declared.lit.Lit.{Lit}
use Rattle.bb_arith.proofs.OrderLemmas.{order_step, size_step}
use Rattle.bb_arith.proofs.order.below.Goals as goal

pub returns-in_err-less-2-clause-keeps : goal.returns-in_err-less-2-clause-keeps
returns-in_err-less-2-clause-keeps g c =
    let laws = c.growth_laws.ensures in
    laws.through c.args.formula.now c.loop-i.formula c.carry_bit.new.formula
    (laws.extends c.args.formula.now c.loop-i.formula c.loop-i.invariant.gate.extends) c.carry_bit.ensures.keeps

pub loop-i-preserved : goal.loop-i-preserved
loop-i-preserved g c =
    let i = c.loop-i.i in
    let old = c.args.formula.now in
    let mid = c.loop-i.formula in
    let new = c.carry_bit.new.formula in
    let d : Lit = record { 0 = 0 } in
    let lt = c.loop-i-test.true in
    let in_a : i < length c.args.a.now = omega (arith, lt, c.told-a) in
    let in_b : i < length c.args.b.now = omega (arith, lt, c.told-b) in
    record {
      gate = order_step c.extension_laws.ensures.through c.literal_laws.ensures.opposite_value old mid new
          c.args.a.now c.args.b.now i d c.opposite.result c.loop-i.less c.in_ok-less-2.less in_a in_b
          c.opposite.ensures c.loop-i.invariant.gate c.in_ok-less-2.ensures.gate;
      size = size_step i old mid new c.loop-i.invariant.size c.carry_bit.ensures.size;
    }
