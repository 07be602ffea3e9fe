use Rattle.std.proofs.Common.{◌/◌, ◌%◌, ◌^◌}
use Rattle.std.proofs.lemmas.Result.{IfOk-weaker}
use Rattle.bb_arith.specs.Words.{number_of, IsWordGate}
use Rattle.bb_arith.proofs.ChoiceLemmas.{word_after}
use Rattle.bb_arith.proofs.MoveLemmas.{moved_with_zeros}
use Rattle.bb_arith.proofs.shift.ushr.Goals as goal

pub returns-clause-gate : goal.returns-clause-gate
returns-clause-gate g c =
    let n = g.row.W in
    let word = c.args.word.now in
    let distance = c.args.distance.now in
    let old = c.args.formula.now in
    let mid = c.constant_lit.new.formula in
    let new = c.shifted.new.formula in
    let zero = c.in_ok-zero.ensures.gate in
    IfOk-weaker c.shifted.result _
    (λ lits. IsWordGate old new lits (λ w. number_of w word / 2 ^ (number_of w distance % n)))
    (λ lits gate. word_after c.extension_laws.ensures.through old mid new lits _ _ zero.extends
    (λ w h. moved_with_zeros n _ (number_of w distance % n) (number_of w word) (zero.shows.is w h)) gate)
    c.shifted.ensures.gate
