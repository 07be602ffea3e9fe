use Rattle.std.proofs.Common.{◌+◌, List, true, get_or, take, sym, subst}
use Rattle.cn_clauses.specs.declared.lit.Lit.{Lit}
use Rattle.cn_clauses.specs.Extension.{IsGate}
use Rattle.bb_gates.specs.Values.{both, of_two}
use Rattle.bb_gates.specs.Calls.Chain.{all_signed}
use Rattle.bb_gates.proofs.GateLemmas.{made_same}
use Rattle.bb_gates.proofs.GrowthLemmas.{extends_conservative, conservative_through}
use Rattle.bb_gates.proofs.ChainLemmas.{chain_next, adds_next, empty_signed, take_behind}
use Rattle.bb_gates.proofs.slices.chain.Goals as goal

pub returns-in_default-clause-gate : goal.returns-in_default-clause-gate
returns-in_default-clause-gate c =
    let lits = c.args.lits.now in
    made_same c.constant_lit.result c.args.formula.now c.constant_lit.new.formula (λ w. true)
    (all_signed c.args.sign lits) c.constant_lit.ensures.gate
    (λ w h. empty_signed c.args.sign lits w c.in_default.ensures.cases)

pub returns-in_err-result-clause-keeps : goal.returns-in_err-result-clause-keeps
returns-in_err-result-clause-keeps c =
    let old = c.args.formula.now in
    let mid = c.loop-lit.formula in
    conservative_through c.extension_laws.ensures.continues_through old mid c.and.new.formula
    (extends_conservative old mid c.loop-lit.invariant.gate.extends) c.and.ensures.keeps

pub loop-lit-preserved : goal.loop-lit-preserved
loop-lit-preserved c =
    let old = c.args.formula.now in
    let mid = c.loop-lit.formula in
    let new = c.and.new.formula in
    let i = c.loop-lit.lit-index in
    let lits = c.args.lits.now in
    let rest = c.in-Some.rest.now in
    let d : Lit = record { 0 = 0 } in
    let sign = c.args.sign in
    let so_far = c.loop-lit.result in
    let made = c.in_ok-result.result in
    let gate = subst (λ (l : Lit). IsGate mid new made (of_two both so_far l)) c.signed.ensures
    c.in_ok-result.ensures.gate in
    let longer = take_behind lits rest c.in-Some.first.now d i c.in-Some.ensures.cases.0 c.loop-lit-test.true in
    record {
      gate = subst (λ (xs : List Lit). IsGate old new made (all_signed sign xs)) (sym longer)
          (chain_next c.extension_laws.ensures.through old mid new so_far made (get_or rest i d) sign
          (take (i + 1) lits) c.loop-lit.invariant.gate gate);
      size = adds_next i old mid new c.loop-lit.invariant.size c.and.ensures.size;
    }
