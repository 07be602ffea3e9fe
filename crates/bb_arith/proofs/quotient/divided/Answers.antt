use Rattle.std.proofs.Common.{◌≡◌, ◌<◌, ◌+◌, ◌-◌, ℕ, length, set, subst, ◌∙◌, arith}
use Rattle.std.proofs.Math.ListN.{replicate}
use Rattle.std.proofs.lemmas.List.{length-replicate, length-set}
use Rattle.cn_clauses.specs.declared.lit.Lit.{Lit}
use Rattle.bb_arith.specs.Calls.Division.{IsDivided}
use Rattle.bb_arith.proofs.SumLemmas.{constant_size}
use Rattle.bb_arith.proofs.DivisionLemmas.{division_start, division_more, no_step_size, more_steps_size}
use Rattle.bb_arith.proofs.quotient.divided.Goals as goal

pub loop-k-init : goal.loop-k-init
loop-k-init g c =
    let n = g.row.W in
    let old = c.args.formula.now in
    let new = c.constant_lit.new.formula in
    let zero = c.in_ok-zero.zero in
    let none = replicate n zero in
    let all : n ≡ n - 0 = omega arith in
    record {
      divided = subst (λ (i : ℕ). IsDivided i n old new c.args.word.now c.args.divisor.now none none) all
          (division_start n old new c.args.word.now c.args.divisor.now zero c.told-word c.in_ok-zero.ensures.gate);
      width = length-replicate n zero;
      size = no_step_size n old new (constant_size old new c.constant_lit.ensures.size);
    }

pub returns-in_err-step-clause-keeps : goal.returns-in_err-step-clause-keeps
returns-in_err-step-clause-keeps g c =
    let laws = c.growth_laws.ensures in
    let old = c.args.formula.now in
    let mid = c.loop-k.formula in
    laws.through old mid c.reduced.new.formula (laws.extends old mid c.loop-k.invariant.divided.extends)
    c.reduced.ensures.keeps

pub loop-k-preserved : goal.loop-k-preserved
loop-k-preserved g c =
    let n = g.row.W in
    let k = c.loop-k.k in
    let i = n - 1 - k in
    let old = c.args.formula.now in
    let mid = c.loop-k.formula in
    let new = c.reduced.new.formula in
    let word = c.args.word.now in
    let divisor = c.args.divisor.now in
    let quotient = c.loop-k.quotient in
    let step = c.in_ok-step.step in
    let d : Lit = record { 0 = 0 } in
    let lt = c.loop-k-test.true in
    let width = c.loop-k.invariant.width in
    let before : n - k ≡ i + 1 = omega (arith, lt) in
    let after : i ≡ n - (k + 1) = omega (arith, lt) in
    let in_word : i < length word = omega (arith, lt, c.told-word) in
    let in_quotient : i < length quotient = omega (arith, lt, width) in
    let so_far = subst (λ (m : ℕ). IsDivided m n old mid word divisor quotient c.loop-k.rest) before
    c.loop-k.invariant.divided in
    record {
      divided = subst (λ (m : ℕ). IsDivided m n old new word divisor (set quotient i step.digit) step.rest) after
          (division_more c.extension_laws.ensures.through n i old mid new word divisor d quotient c.loop-k.rest
          c.moved_up-longer.result step.rest step.digit c.told-word in_word in_quotient so_far
          c.moved_up-longer.ensures.value c.in_ok-step.ensures.gate);
      width = length-set quotient i step.digit ∙ width;
      size = more_steps_size n k old mid new c.loop-k.invariant.size c.reduced.ensures.size;
    }
