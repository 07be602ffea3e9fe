-- Sums of words, a bit more at a time.
use Rattle.std.proofs.Common.{◌≡◌, ◌<◌, ◌≤◌, ◌+◌, ◌-◌, ◌*◌, ◌%◌, ◌^◌, ℕ, Bool, true, false, List, length, take, get_or}
use Rattle.std.proofs.Common.{set, sym, ap, ◌∙◌, subst, arith}
use Rattle.std.proofs.Math.Nat.{add-mul-mod_self_left, mod-eq_of_lt}
use Rattle.std.proofs.lemmas.List.{take_all, take_more_set}
use Rattle.cn_clauses.specs.declared.lit.Lit.{Lit}
use Rattle.cn_clauses.specs.declared.formula.Formula.{Formula}
use Rattle.cn_clauses.specs.Literals.{lit_value}
use Rattle.cn_clauses.specs.Formulas.{variables_of, clauses_of}
use Rattle.cn_clauses.specs.Extension.{Extends, Shows, IsGate}
use Rattle.cn_clauses.specs.Laws.{ExtendsThrough, ShowsLater}
use Rattle.bb_gates.specs.Values.{parity, majority, of_three}
use Rattle.bb_gates.specs.Growth.{AreOf, Adds, AddsNoGate, AddsNothing, AddsTruth}
use Rattle.bb_arith.specs.Words.{number_of, IsWordGate}
use Rattle.jv_list.specs.Numbers.{bit_number}
use Rattle.bb_arith.specs.Sums.{IsSumSoFar}
use Rattle.jv_list.proofs.NumberLemmas.{double_next}
use Rattle.bb_arith.proofs.NumberLemmas.{number_below}
use Rattle.bb_arith.proofs.WordLemmas.{number_take, set_number, word_grown, word_push}

-- one more column of a sum
column : (p q s x y one : ℕ) (a b c : Bool) → q ≡ 2 * p → s + p * bit_number c ≡ x + y + one
    → (s + p * bit_number (parity a b c)) + q * bit_number
    (majority a b c) ≡ (x + p * bit_number a) + (y + p * bit_number b) + one
column p q s x y one true true true double e = omega (arith, double, e)
column p q s x y one true true false double e = omega (arith, double, e)
column p q s x y one true false true double e = omega (arith, double, e)
column p q s x y one true false false double e = omega (arith, double, e)
column p q s x y one false true true double e = omega (arith, double, e)
column p q s x y one false true false double e = omega (arith, double, e)
column p q s x y one false false true double e = omega (arith, double, e)
column p q s x y one false false false double e = omega (arith, double, e)

same_sums : (s t x z y v q one : ℕ) → s ≡ t → x ≡ z → y ≡ v → t + q ≡ z + v + one → s + q ≡ x + y + one
same_sums s t x z y v q one es ex ey e = omega (arith, es, ex, ey, e)

no_bits : (b : Bool) → 0 + 2 ^ 0 * bit_number b ≡ 0 + 0 + bit_number b
no_bits true = omega arith
no_bits false = omega arith

pub sum_start : (old new : Formula) (a b sum : List Lit) (one : Bool) (carry : Lit) → IsGate old new carry (λ w. one)
    → IsSumSoFar 0 old new a b sum one carry
sum_start old new a b sum one carry gate = record {
  extends = gate.extends;
  within = tt;
  out = λ w. one;
  is = λ w h. no_bits one;
  shows = λ lt. gate.shows;
}

-- the next bit of a sum, in a formula that may have grown after it by the next carry
module _ (through : ExtendsThrough) (later : ShowsLater) (i : ℕ) (old mid new : Formula) (a b sum : List Lit) (d : Lit)
    (one : Bool) (carry s next : Lit)
    (in_a : i < length a) (in_b : i < length b) (in_sum : i < length sum) where
  pub sum_step : IsSumSoFar i old mid a b sum one carry → Extends mid new
      → Shows new s (of_three parity (get_or a i d) (get_or b i d) carry)
      → (i + 1 < length a → Shows new next (of_three majority (get_or a i d) (get_or b i d) carry))
      → IsSumSoFar (i + 1) old new a b (set sum i s) one next
  sum_step so_far grown bit more =
      let longer = take_more_set sum i s in_sum in
      let grows : variables_of mid ≤ variables_of new = grown.continues.grows in
      record {
        extends = through old mid new so_far.extends grown;
        within = subst (AreOf new) (sym longer)
            (word_push new (take i sum) s (word_grown mid new (take i sum) grows so_far.within) bit.within);
        out = of_three majority (get_or a i d) (get_or b i d) carry;
        is = λ w h.
            let k = grown.keeps w h in
            let c = lit_value w carry in
            let before =
            subst (λ (t : Bool). number_of w (take i sum) + 2 ^ i * bit_number t ≡ number_of w
            (take i a) + number_of w (take i b) + bit_number one)
            (sym ((so_far.shows in_a).is w k)) (so_far.is w k) in
            same_sums _ _ _ _ _ _ _ _
            (set_number w sum i s (of_three parity (get_or a i d) (get_or b i d) carry w) in_sum (bit.is w h))
            (number_take w a i d in_a) (number_take w b i d in_b)
            (column (2 ^ i) (2 ^ (i + 1)) (number_of w (take i sum)) (number_of w (take i a)) (number_of w (take i b))
            (bit_number one)
            (lit_value w (get_or a i d)) (lit_value w (get_or b i d)) c (double_next i) before);
        shows = more;
      }

  -- with the next carry
  pub sum_more : (between after : Formula) (made : Lit) → IsSumSoFar i old mid a b sum one carry
      → IsGate mid between s (of_three parity (get_or a i d) (get_or b i d) carry)
      → IsGate between after made (of_three majority (get_or a i d) (get_or b i d) carry) → new ≡ after → next ≡ made
      → IsSumSoFar (i + 1) old new a b (set sum i s) one next
  sum_more between after made so_far bit gate is is_made =
      let value = of_three majority (get_or a i d) (get_or b i d) carry in
      let gate_new : IsGate between new made value = subst (λ (f : Formula). IsGate between f made value) (sym is) gate
      in
      let last : IsGate between new next value = subst (λ (l : Lit). IsGate between new l value) (sym is_made) gate_new
      in
      sum_step so_far (through mid between new bit.extends last.extends)
      (later between new s (of_three parity (get_or a i d) (get_or b i d) carry) last.extends.continues bit.shows)
      (λ lt. last.shows)

  -- without one, at the end
  pub sum_last : (after : Formula) → IsSumSoFar i old mid a b sum one carry
      → IsGate mid after s (of_three parity (get_or a i d) (get_or b i d) carry) → new ≡ after → (i + 1 < length a → ⊥)
      → IsSumSoFar (i + 1) old new a b (set sum i s) one next
  sum_last after so_far bit is last =
      let value = of_three parity (get_or a i d) (get_or b i d) carry in
      let gate : IsGate mid new s value = subst (λ (f : Formula). IsGate mid f s value) (sym is) bit in
      sum_step so_far gate.extends gate.shows (λ lt. absurd (last lt))

turned_sum : (a b t p : ℕ) → t + b + 1 ≡ p → a + t + 1 ≡ a + (p - b)
turned_sum a b t p e = omega (arith, e)

wrapped : (n q k t : ℕ) → n < q → n + q * k ≡ t → n ≡ t % q
wrapped n q k t lt e = sym (mod-eq_of_lt lt) ∙ sym (add-mul-mod_self_left n q k) ∙ ap (λ (m : ℕ). m % q) e

-- a sum of all bits is one modulo a power of two
pub sum_word : (i n : ℕ) (old new : Formula) (a b sum : List Lit) (one : Bool) (carry : Lit) → i ≡ n
    → length a ≡ n → length b ≡ n → length sum ≡ n → IsSumSoFar i old new a b sum one carry
    → IsWordGate old new sum (λ w. (number_of w a + number_of w b + bit_number one) % 2 ^ n)
sum_word i n old new a b sum one carry is len_a len_b len_sum so_far =
    let all_a : take i a ≡ a = take_all i a (omega (arith, is, len_a)) in
    let all_b : take i b ≡ b = take_all i b (omega (arith, is, len_b)) in
    let all_sum : take i sum ≡ sum = take_all i sum (omega (arith, is, len_sum)) in
    record {
      extends = so_far.extends;
      within = subst (AreOf new) all_sum so_far.within;
      is = λ w h.
          let below = subst (λ (m : ℕ). number_of w sum < 2 ^ m) len_sum (number_below w sum) in
          wrapped (number_of w sum) (2 ^ n) (bit_number (so_far.out w))
          (number_of w a + number_of w b + bit_number one) below
          (ap (λ (m : ℕ). number_of w sum + 2 ^ m * bit_number (so_far.out w)) (sym is)
          ∙ ap (λ (lits : List Lit). number_of w lits + 2 ^ i * bit_number (so_far.out w)) (sym all_sum)
          ∙ so_far.is w h
          ∙ ap (λ (lits : List Lit). number_of w lits + number_of w (take i b) + bit_number one) all_a
          ∙ ap (λ (lits : List Lit). number_of w a + number_of w lits + bit_number one) all_b);
    }

-- a word for a number is one for each number that is the same
pub word_same : (old new : Formula) (lits : List Lit) (value other : (ℕ → Bool) → ℕ)
    → ((w : ℕ → Bool) → value w ≡ other w)
    → IsWordGate old new lits value → IsWordGate old new lits other
word_same old new lits value other same gate = record {
  extends = gate.extends;
  within = gate.within;
  is = λ w h. gate.is w h ∙ same w;
}

-- to add the opposites and one is to subtract
pub difference : (n : ℕ) (w : ℕ → Bool) (a b turned : List Lit) → number_of w turned + number_of w b + 1 ≡ 2 ^ n
    → (number_of w a + number_of w turned + bit_number true) % 2 ^ n ≡ (number_of w a + (2 ^ n - number_of w b)) % 2 ^ n
difference n w a b turned whole =
    ap (λ (m : ℕ). m % 2 ^ n) (turned_sum (number_of w a) (number_of w b) (number_of w turned) (2 ^ n) whole)

-- a constant adds the true literal at most
pub constant_size : (old new : Formula) → AddsNoGate old new → Adds 1 1 old new
constant_size old new (AddsNothing same) = record {
  variables = let v : variables_of new ≡ variables_of old = ap variables_of same in omega (arith, v);
  clauses =
      let c : length (clauses_of new) ≡ length (clauses_of old) = ap (λ (f : Formula). length (clauses_of f)) same in
      omega (arith, c);
}
constant_size old new (AddsTruth none size) = size

pub sum_size : (i : ℕ) (old mid between new : Formula) → Adds (2 * i + 1) (14 * i + 1) old mid → Adds 1 8 mid between
    → Adds 1 6 between new
    → Adds (2 * (i + 1) + 1) (14 * (i + 1) + 1) old new
sum_size i old mid between new first second third = record {
  variables = let v = first.variables in let u = second.variables in let t = third.variables in omega (arith, v, u, t);
  clauses = let c = first.clauses in let d = second.clauses in let e = third.clauses in omega (arith, c, d, e);
}

pub last_size : (i : ℕ) (old mid new : Formula) → Adds (2 * i + 1) (14 * i + 1) old mid → Adds 1 8 mid new
    → Adds (2 * (i + 1) + 1) (14 * (i + 1) + 1) old new
last_size i old mid new first second = record {
  variables = let v = first.variables in let u = second.variables in omega (arith, v, u);
  clauses = let c = first.clauses in let d = second.clauses in omega (arith, c, d);
}
