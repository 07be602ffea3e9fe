use Rattle.std.proofs.Common.{◌%◌, ℤ, ap, sym, ◌∙◌}
use Rattle.std.proofs.lemmas.Result.{IfOk-weaker}
use Rattle.std.specs.Int.{int_shr}
use Rattle.bb_arith.specs.Words.{number_of, signed_of, IsWordGate}
use Rattle.jv_list.specs.Numbers.{quotient_of, remainder_of, wrapped_number}
use Rattle.bb_terms.specs.Calls.Words.{arithmetic_value}
use Rattle.bb_terms.specs.declared.arithmetic.WordOp.{WordOp}
use Rattle.bb_terms.proofs.ArithmeticLemmas.{signed_two, signed_one, gate_told}
use Rattle.bb_terms.proofs.arithmetic.on_words.Goals as goal

pub returns-in_ok-divrem-in-Div-clause-gate : goal.returns-in_ok-divrem-in-Div-clause-gate
returns-in_ok-divrem-in-Div-clause-gate g c =
    gate_told c.args.formula.now c.divrem.new.formula c.in_ok-divrem-in-Div.field-0.quotient _ _
    (λ w. signed_two quotient_of g.row.W c.args.a.now c.args.b.now c.told-a c.told-b w
    ∙ ap (λ (k : WordOp). arithmetic_value g.row.W k (number_of w c.args.a.now) (number_of w c.args.b.now))
    (sym c.in-Div.is))
    c.in_ok-divrem-in-Div.ensures.quotient

pub returns-in_ok-divrem-in-Rem-clause-gate : goal.returns-in_ok-divrem-in-Rem-clause-gate
returns-in_ok-divrem-in-Rem-clause-gate g c =
    gate_told c.args.formula.now c.divrem-in-Rem.new.formula c.in_ok-divrem-in-Rem.field-0.remainder _ _
    (λ w. signed_two remainder_of g.row.W c.args.a.now c.args.b.now c.told-a c.told-b w
    ∙ ap (λ (k : WordOp). arithmetic_value g.row.W k (number_of w c.args.a.now) (number_of w c.args.b.now))
    (sym c.in-Rem.is))
    c.in_ok-divrem-in-Rem.ensures.remainder

pub returns-in-Shr-clause-gate : goal.returns-in-Shr-clause-gate
returns-in-Shr-clause-gate g c =
    let n = g.row.W in
    let a = c.args.a.now in
    let b = c.args.b.now in
    IfOk-weaker c.shr.result
    (λ lits. IsWordGate c.args.formula.now c.shr.new.formula lits
    (λ w. wrapped_number n (int_shr (signed_of w a) (number_of w b % n))))
    (λ lits. IsWordGate c.args.formula.now c.shr.new.formula lits
    (λ w. arithmetic_value n c.args.kind (number_of w a) (number_of w b)))
    (λ lits gate. gate_told c.args.formula.now c.shr.new.formula lits _ _
    (λ w. signed_one (λ (z : ℤ). int_shr z (number_of w b % n)) n a c.told-a w
    ∙ ap (λ (k : WordOp). arithmetic_value n k (number_of w a) (number_of w b)) (sym c.in-Shr.is)) gate)
    c.shr.ensures.gate
