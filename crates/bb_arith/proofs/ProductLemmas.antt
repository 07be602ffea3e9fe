-- Products of words, a row more at a time.
use Rattle.std.proofs.Common.{◌≡◌, ◌<◌, ◌≤◌, ◌+◌, ◌*◌, ◌%◌, ◌^◌, ℕ, Bool, true, false, List, length, take, get_or, sym}
use Rattle.std.proofs.Common.{ap, ◌∙◌, arith, if◌then◌else◌}
use Rattle.std.proofs.Math.ListN.{replicate}
use Rattle.std.proofs.Math.Nat.{add-mod, mod-mod, mod-eq_of_lt}
use Rattle.std.proofs.lemmas.List.{take_all}
use Rattle.std.proofs.lemmas.Nat.{pow_pos}
use Rattle.cn_clauses.specs.declared.lit.Lit.{Lit}
use Rattle.cn_clauses.specs.declared.formula.Formula.{Formula}
use Rattle.cn_clauses.specs.Literals.{lit_value}
use Rattle.cn_clauses.specs.Extension.{Shows, IsGate}
use Rattle.cn_clauses.specs.Laws.{ExtendsThrough}
use Rattle.bb_gates.specs.Growth.{Adds}
use Rattle.bb_arith.specs.Words.{number_of, IsWordGate}
use Rattle.jv_list.specs.Numbers.{bit_number}
use Rattle.bb_arith.proofs.WordLemmas.{number_take}
use Rattle.bb_arith.proofs.PlaceLemmas.{number_zeros, repeated_within}

-- a product that has one more bit of the second number
row_sum : (a b p m : ℕ) (bit : Bool)
    → ((a * b) % m + (if bit then (a * p) % m else 0)) % m ≡ (a * (b + p * bit_number bit)) % m
row_sum a b p m true =
    sym (add-mod (a * b) (a * p) m)
    ∙ ap (λ (k : ℕ). k % m) (let e : a * b + a * p ≡ a * (b + p * 1) = omega arith in e)
row_sum a b p m false =
    ap (λ (k : ℕ). k % m) (let e : (a * b) % m + 0 ≡ (a * b) % m = omega arith in e) ∙ mod-mod (a * b) m
    ∙ ap (λ (k : ℕ). k % m) (let e : a * b ≡ a * (b + p * 0) = omega arith in e)

-- before the first row
pub product_start : (old new : Formula) (n : ℕ) (a b : List Lit) (zero : Lit) → IsGate old new zero (λ w. false)
    → IsWordGate old new (replicate n zero) (λ w. (number_of w a * number_of w (take 0 b)) % 2 ^ n)
product_start old new n a b zero gate = record {
  extends = gate.extends;
  within = repeated_within new n zero gate.shows.within;
  is = λ w h. number_zeros w n zero (gate.shows.is w h)
      ∙ sym (mod-eq_of_lt (pow_pos n))
      ∙ ap (λ (m : ℕ). m % 2 ^ n) (let none : 0 ≡ number_of w a * 0 = omega arith in none);
}

-- the next row
module _ (through : ExtendsThrough) (n i : ℕ) (old mid between new : Formula) (a b : List Lit) (d zero : Lit)
    (product moved row next : List Lit) (in_b : i < length b) where
  pub product_more : IsWordGate old mid product (λ w. (number_of w a * number_of w (take i b)) % 2 ^ n)
      → Shows mid zero (λ w. false)
      → ((w : ℕ → Bool) → lit_value w zero ≡ false → number_of w moved ≡ (number_of w a * 2 ^ i) % 2 ^ n)
      → IsWordGate mid between row
      (λ w. if lit_value w (get_or b i d) then number_of w moved else number_of w (replicate n zero))
      → IsWordGate between new next (λ w. (number_of w product + number_of w row) % 2 ^ n)
      → IsWordGate old new next (λ w. (number_of w a * number_of w (take (i + 1) b)) % 2 ^ n)
  product_more so_far zeros up chosen last = record {
    extends = through old between new (through old mid between so_far.extends chosen.extends) last.extends;
    within = last.within;
    is = λ w h.
        let k = last.extends.keeps w h in
        let l = chosen.extends.keeps w k in
        let none = zeros.is w l in
        let bit = lit_value w (get_or b i d) in
        last.is w h
        ∙ ap (λ (m : ℕ). (m + number_of w row) % 2 ^ n) (so_far.is w l)
        ∙ ap (λ (m : ℕ). ((number_of w a * number_of w (take i b)) % 2 ^ n + m) % 2 ^ n)
        (chosen.is w k
        ∙ ap (λ (m : ℕ). if bit then m else number_of w (replicate n zero)) (up w none)
        ∙ ap (λ (m : ℕ). if bit then (number_of w a * 2 ^ i) % 2 ^ n else m) (number_zeros w n zero none))
        ∙ row_sum (number_of w a) (number_of w (take i b)) (2 ^ i) (2 ^ n) bit
        ∙ ap (λ (m : ℕ). (number_of w a * m) % 2 ^ n) (sym (number_take w b i d in_b));
  }

pub product_whole : (n i : ℕ) (old new : Formula) (a b product : List Lit) → length b ≤ i
    → IsWordGate old new product (λ w. (number_of w a * number_of w (take i b)) % 2 ^ n)
    → IsWordGate old new product (λ w. (number_of w a * number_of w b) % 2 ^ n)
product_whole n i old new a b product le gate = record {
  extends = gate.extends;
  within = gate.within;
  is = λ w h. gate.is w h
      ∙ ap (λ (lits : List Lit). (number_of w a * number_of w lits) % 2 ^ n) (take_all i b le);
}

pub product_size : (n i : ℕ) (old mid between new : Formula) → Adds (i * (3 * n + 1) + 1) (i * (18 * n + 1) + 1) old mid
    → Adds n (4 * n) mid between → Adds (2 * n + 1) (14 * n + 1) between new
    → Adds ((i + 1) * (3 * n + 1) + 1) ((i + 1) * (18 * n + 1) + 1) old new
product_size n i old mid between new first second third = record {
  variables = let v = first.variables in let u = second.variables in let t = third.variables in omega (arith, v, u, t);
  clauses = let c = first.clauses in let d = second.clauses in let e = third.clauses in omega (arith, c, d, e);
}

pub first_size : (n : ℕ) (old new : Formula) → Adds 1 1 old new
    → Adds (0 * (3 * n + 1) + 1) (0 * (18 * n + 1) + 1) old new
first_size n old new first = record {
  variables = let v = first.variables in omega (arith, v);
  clauses = let c = first.clauses in omega (arith, c);
}
