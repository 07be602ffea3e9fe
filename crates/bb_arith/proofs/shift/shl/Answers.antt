use Rattle.std.proofs.Common.{◌*◌, ◌%◌, ◌^◌, refl}
use Rattle.std.proofs.lemmas.Result.{IfOk-weaker}
use Rattle.bb_arith.specs.Words.{number_of, IsWordGate}
use Rattle.bb_arith.proofs.ChoiceLemmas.{word_after}
use Rattle.bb_arith.proofs.shift.shl.Goals as goal

pub returns-clause-gate : goal.returns-clause-gate
returns-clause-gate g c =
    let n = g.row.W in
    let word = c.args.word.now in
    let distance = c.args.distance.now in
    let old = c.args.formula.now in
    let mid = c.constant_lit.new.formula in
    let new = c.shifted.new.formula in
    IfOk-weaker c.shifted.result _
    (λ lits. IsWordGate old new lits (λ w. (number_of w word * 2 ^ (number_of w distance % n)) % 2 ^ n))
    (λ lits gate. word_after c.extension_laws.ensures.through old mid new lits _ _ c.in_ok-zero.ensures.gate.extends
    (λ w h. refl) gate)
    c.shifted.ensures.gate
