use Rattle.std.proofs.Common.{◌≡◌, ◌+◌, ◌-◌, ℕ, Bool, length, nat_lt, int_lt, arith}
use Rattle.std.proofs.lemmas.Result.{IfOk-weaker}
use Rattle.cn_clauses.specs.declared.lit.Lit.{Lit}
use Rattle.cn_clauses.specs.Extension.{IsGate}
use Rattle.bb_arith.specs.Words.{number_of, signed_of}
use Rattle.bb_arith.proofs.SignLemmas.{exchanged_words, empty_words, gate_same}
use Rattle.bb_arith.proofs.order.less.Goals.{then-this-gt0, else-this-gt0}
use Rattle.bb_arith.proofs.order.less.Goals as goal

pub returns-clause-gate : goal.returns-clause-gate
returns-clause-gate g c =
    let a = c.args.a.now in
    let b = c.args.b.now in
    let x = c.if-this-gt0.x in
    let y = c.if-this-gt0.y in
    let old = c.args.formula.now in
    let new = c.below.new.formula in
    let d : Lit = record { 0 = 0 } in
    let n = g.row.W - 1 in
    let order : (w : ℕ → Bool) → nat_lt (number_of w x) (number_of w y) ≡ int_lt (signed_of w a) (signed_of w b) =
    elim c.if-this-gt0.branch [
      | then-this-gt0 t ↦
          let some = t.if-this-gt0.true in
          let len_a : length a ≡ n + 1 = omega (arith, c.told-a, some) in
          let len_b : length b ≡ n + 1 = omega (arith, c.told-b, some) in
          exchanged_words a b x y n d len_a len_b t.x-is t.y-is
      | else-this-gt0 t ↦
          let none = t.if-this-gt0.false in
          let len_a : length a ≡ 0 = omega (arith, c.told-a, none) in
          let len_b : length b ≡ 0 = omega (arith, c.told-b, none) in
          empty_words a b x y len_a len_b t.x-is t.y-is
    ] in
    IfOk-weaker c.below.result (λ lit. IsGate old new lit (λ w. nat_lt (number_of w x) (number_of w y)))
    (λ lit. IsGate old new lit (λ w. int_lt (signed_of w a) (signed_of w b)))
    (λ lit gate. gate_same old new lit (λ w. nat_lt (number_of w x) (number_of w y))
    (λ w. int_lt (signed_of w a) (signed_of w b)) order gate)
    c.below.ensures.gate
