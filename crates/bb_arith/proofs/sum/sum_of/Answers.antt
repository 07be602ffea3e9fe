use Rattle.std.proofs.Common.{◌<◌, ◌≤◌, ◌+◌, ◌*◌, length, refl, sym, ◌∙◌, subst, arith}
use Rattle.std.proofs.lemmas.List.{length-set}
use Rattle.cn_clauses.specs.declared.lit.Lit.{Lit}
use Rattle.cn_clauses.specs.declared.formula.Formula.{Formula}
use Rattle.cn_clauses.specs.Formulas.{variables_of}
use Rattle.bb_gates.specs.Growth.{Adds}
use Rattle.bb_arith.proofs.WordLemmas.{bit_within, three_of}
use Rattle.bb_arith.proofs.SumLemmas.{sum_start, sum_more, sum_last, sum_word, constant_size, sum_size, last_size}
use Rattle.bb_arith.proofs.sum.sum_of.Goals.{then-i+in_ok-carry-2, else-i}
use Rattle.bb_arith.proofs.sum.sum_of.Goals as goal

pub sum_bit-requires : goal.sum_bit-requires
sum_bit-requires g c =
    let i = c.loop-i.i in
    let old = c.args.formula.now in
    let mid = c.loop-i.formula in
    let a = c.args.a.now in
    let b = c.args.b.now in
    let d : Lit = record { 0 = 0 } in
    let lt = c.loop-i-test.true in
    let in_a : i < length a = omega (arith, lt, c.told-a) in
    let in_b : i < length b = omega (arith, lt, c.told-b) in
    let so_far = c.loop-i.invariant.sum in
    let grows : variables_of old ≤ variables_of mid = so_far.extends.continues.grows in
    three_of mid _ _ _ (bit_within old mid a i d grows c.requires.first in_a)
    (bit_within old mid b i d grows c.requires.second in_b)
    (so_far.shows in_a).within

pub loop-i-init : goal.loop-i-init
loop-i-init g c =
    let old = c.args.formula.now in
    let new = c.constant_lit.new.formula in
    let a = c.args.a.now in
    record {
      sum = sum_start old new a c.args.b.now a c.args.one c.in_ok-carry.carry c.in_ok-carry.ensures.gate;
      width = refl;
      size = constant_size old new c.constant_lit.ensures.size;
    }

pub returns-in_err-sum-clause-keeps : goal.returns-in_err-sum-clause-keeps
returns-in_err-sum-clause-keeps g c =
    let laws = c.growth_laws.ensures in
    let old = c.args.formula.now in
    let mid = c.loop-i.formula in
    laws.through old mid c.sum_bit.new.formula
    (laws.extends old mid c.loop-i.invariant.sum.extends) c.sum_bit.ensures.keeps

pub returns-in_err-carry-2-clause-keeps : goal.returns-in_err-carry-2-clause-keeps
returns-in_err-carry-2-clause-keeps g c =
    let laws = c.growth_laws.ensures in
    let old = c.args.formula.now in
    let mid = c.loop-i.formula in
    let between = c.sum_bit.new.formula in
    laws.through old between c.carry_bit.new.formula
    (laws.through old mid between (laws.extends old mid c.loop-i.invariant.sum.extends) c.sum_bit.ensures.keeps)
    c.carry_bit.ensures.keeps

pub loop-i-preserved : goal.loop-i-preserved
loop-i-preserved g c =
    let laws = c.extension_laws.ensures in
    let later = c.value_laws.ensures.later in
    let i = c.loop-i.i in
    let old = c.args.formula.now in
    let mid = c.loop-i.formula in
    let between = c.sum_bit.new.formula in
    let new = c.if-i.formula in
    let a = c.args.a.now in
    let b = c.args.b.now in
    let sum = c.loop-i.sum in
    let one = c.args.one in
    let carry = c.loop-i.carry in
    let s = c.in_ok-sum.field-0 in
    let next = c.if-i.carry in
    let d : Lit = record { 0 = 0 } in
    let lt = c.loop-i-test.true in
    let same = c.loop-i.invariant.width in
    let in_a : i < length a = omega (arith, lt, c.told-a) in
    let in_b : i < length b = omega (arith, lt, c.told-b) in
    let in_sum : i < length sum = omega (arith, in_a, same) in
    let so_far = c.loop-i.invariant.sum in
    let bit = c.in_ok-sum.ensures.gate in
    let first = c.loop-i.invariant.size in
    let second = c.sum_bit.ensures.size in
    record {
      sum = elim c.if-i.branch [
        | then-i+in_ok-carry-2 w ↦
            sum_more laws.through later i old mid new a b sum d one carry s next in_a in_b in_sum between _ _ so_far bit
            w.in_ok-carry-2.ensures.gate w.formula-is w.carry-is
        | else-i w ↦
            let past = w.if-i.false in
            sum_last laws.through later i old mid new a b sum d one carry s next in_a in_b in_sum between so_far bit
            w.formula-is (λ more. omega (arith, more, past, c.told-a))
      ];
      width = length-set sum i s ∙ same;
      size = elim c.if-i.branch [
        | then-i+in_ok-carry-2 w ↦
            subst (λ (f : Formula). Adds (2 * (i + 1) + 1) (14 * (i + 1) + 1) old f) (sym w.formula-is)
            (sum_size i old mid between _ first second w.carry_bit.ensures.size)
        | else-i w ↦
            subst (λ (f : Formula). Adds (2 * (i + 1) + 1) (14 * (i + 1) + 1) old f) (sym w.formula-is)
            (last_size i old mid between first second)
      ];
    }

pub returns-clause-gate : goal.returns-clause-gate
returns-clause-gate g c =
    let past = c.loop-i-test.false in
    let within = c.loop-i.auto.i-end in
    sum_word c.loop-i.i g.row.W c.args.formula.now c.loop-i.formula c.args.a.now c.args.b.now c.loop-i.sum c.args.one
    c.loop-i.carry
    (omega (arith, past, within)) c.told-a c.told-b (let same = c.loop-i.invariant.width
    in omega (arith, same, c.told-a)) c.loop-i.invariant.sum
