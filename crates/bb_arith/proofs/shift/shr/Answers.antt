use Rattle.std.proofs.Common.{◌<◌, ◌%◌, arith}
use Rattle.std.specs.Int.{int_shr}
use Rattle.std.proofs.lemmas.Result.{IfOk-weaker}
use Rattle.std.proofs.lemmas.Nat.{mod_below, pow_pos}
use Rattle.cn_clauses.specs.declared.lit.Lit.{Lit}
use Rattle.bb_arith.specs.Words.{number_of, signed_of, IsWordGate}
use Rattle.jv_list.specs.Numbers.{wrapped_number}
use Rattle.bb_arith.proofs.PowerLemmas.{power_of}
use Rattle.bb_arith.proofs.SumLemmas.{word_same}
use Rattle.bb_arith.proofs.SignedShiftLemmas.{signed_shift_at}
use Rattle.bb_arith.proofs.shift.shr.Goals as goal

pub returns-clause-gate : goal.returns-clause-gate
returns-clause-gate g c =
    let n = g.row.W in
    let word = c.args.word.now in
    let distance = c.args.distance.now in
    let old = c.args.formula.now in
    let new = c.shifted.new.formula in
    let d : Lit = record { 0 = 0 } in
    let power = power_of n c.requires.power in
    let some : 0 < n = let one = pow_pos power.exponent in let is = power.is in omega (arith, one, is) in
    IfOk-weaker c.shifted.result _
    (λ lits. IsWordGate old new lits (λ w. wrapped_number n (int_shr (signed_of w word) (number_of w distance % n))))
    (λ lits gate. word_same old new lits _ _
    (λ w. signed_shift_at w word n (number_of w distance % n) d c.told-word some
    (let lt = mod_below (number_of w distance) n some in omega (arith, lt))) gate)
    c.shifted.ensures.gate
