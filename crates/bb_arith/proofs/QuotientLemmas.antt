-- Quotients of signed numbers, by their signs and magnitudes.
use Rattle.std.proofs.Common.{◌≡◌, ◌<◌, ◌≤◌, ◌+◌, ◌-◌, ◌*◌, ◌/◌, ◌%◌, ◌^◌, ◌==◌, ℕ, ℤ, pos, negsuc, Bool, true, false}
use Rattle.std.proofs.Common.{List, [], ◌∷◌, ◌||◌, length, take, get_or, zero, suc, refl, sym, ap, ◌∙◌, subst, arith}
use Rattle.std.proofs.Common.{inl, inr, if◌then◌else◌}
use Rattle.std.specs.Prelude.{int_div, int_rem}
use lib.IntN.{neg_ℤ}
use Rattle.std.proofs.Math.Nat.{zero-mod, zero-div, div-zero, mod_self, mod-le, mod-eq_of_lt}
use Rattle.std.proofs.lemmas.Bool.{cases_Bool, eqb-true, false≢true}
use Rattle.std.proofs.lemmas.Nat.{pow_pos, div-add-mod'}
use Rattle.cn_clauses.specs.declared.lit.Lit.{Lit}
use Rattle.cn_clauses.specs.Literals.{lit_value}
use Rattle.bb_gates.specs.Values.{differ, any_of}
use Rattle.bb_arith.specs.Words.{number_of, signed_of}
use Rattle.jv_list.specs.Numbers.{bit_number, wrapped_number}
use Rattle.jv_list.specs.Numbers.{quotient_of, remainder_of}
use Rattle.bb_arith.specs.Calls.Division.{turned_number, turned_or_zero}
use Rattle.jv_list.proofs.NumberLemmas.{double_next}
use Rattle.bb_arith.proofs.NumberLemmas.{number_below}
use Rattle.bb_arith.proofs.SignLemmas.{as_signed, lower_half, upper_half, number_whole, signed_whole, take_below}

-- a magnitude with its sign
abbrev pub with_sign : Bool → ℕ → ℤ
with_sign negative m = if negative then neg_ℤ (pos m) else pos m

not_zero : (k : ℕ) → (suc k == 0) ≡ false
not_zero k =
    elim (cases_Bool (suc k == 0)) [
      | inl is ↦ absurd (let e = eqb-true (suc k) 0 is in omega (arith, e))
      | inr fails ↦ fails
    ]

some_quotient : (x : ℤ) (t : Bool) (k : ℕ) → quotient_of x (with_sign t (suc k)) ≡ int_div x (with_sign t (suc k))
some_quotient x true k = ap (λ (u : Bool). if u then pos 0 else int_div x (negsuc k)) (not_zero k)
some_quotient x false k = ap (λ (u : Bool). if u then pos 0 else int_div x (pos (suc k))) (not_zero k)

some_remainder : (x : ℤ) (t : Bool) (k : ℕ) → remainder_of x (with_sign t (suc k)) ≡ int_rem x (with_sign t (suc k))
some_remainder x true k = ap (λ (u : Bool). if u then pos 0 else int_rem x (negsuc k)) (not_zero k)
some_remainder x false k = ap (λ (u : Bool). if u then pos 0 else int_rem x (pos (suc k))) (not_zero k)

signs_divided : (s t : Bool) (m k : ℕ)
    → int_div (with_sign s m) (with_sign t (suc k)) ≡ with_sign (differ s t) (m / suc k)
signs_divided false false m k = refl
signs_divided false true m k = refl
signs_divided true false zero k = ap pos (zero-div (suc k)) ∙ sym (ap (λ (n : ℕ). neg_ℤ (pos n)) (zero-div (suc k)))
signs_divided true false (suc m) k = refl
signs_divided true true zero k = ap (λ (n : ℕ). neg_ℤ (pos n)) (zero-div (suc k)) ∙ sym (ap pos (zero-div (suc k)))
signs_divided true true (suc m) k = refl

signs_left : (s t : Bool) (m k : ℕ) → int_rem (with_sign s m) (with_sign t (suc k)) ≡ with_sign s (m % suc k)
signs_left false false m k = refl
signs_left false true m k = refl
signs_left true false zero k = ap pos (zero-mod (suc k)) ∙ sym (ap (λ (n : ℕ). neg_ℤ (pos n)) (zero-mod (suc k)))
signs_left true false (suc m) k = refl
signs_left true true zero k = ap pos (zero-mod (suc k)) ∙ sym (ap (λ (n : ℕ). neg_ℤ (pos n)) (zero-mod (suc k)))
signs_left true true (suc m) k = refl

quotient_signs : (s t : Bool) (m k : ℕ) → 0 < k
    → quotient_of (with_sign s m) (with_sign t k) ≡ with_sign (differ s t) (m / k)
quotient_signs s t m zero lt = absurd (omega (arith, lt))
quotient_signs s t m (suc k) lt = some_quotient (with_sign s m) t k ∙ signs_divided s t m k

remainder_signs : (s t : Bool) (m k : ℕ) → 0 < k
    → remainder_of (with_sign s m) (with_sign t k) ≡ with_sign s (m % k)
remainder_signs s t m zero lt = absurd (omega (arith, lt))
remainder_signs s t m (suc k) lt = some_remainder (with_sign s m) t k ∙ signs_left s t m k

pub by_none : (x : ℤ) (t : Bool) → quotient_of x (with_sign t 0) ≡ pos 0
by_none x true = refl
by_none x false = refl

pub rest_by_none : (x : ℤ) (t : Bool) → remainder_of x (with_sign t 0) ≡ pos 0
rest_by_none x true = refl
rest_by_none x false = refl

-- the number of a word with a sign
pub wrapped_sign : (n : ℕ) (s : Bool) (m : ℕ) → m < 2 ^ n
    → wrapped_number n (with_sign s m) ≡ (if s then (0 + (2 ^ n - m)) % 2 ^ n else m)
wrapped_sign n false m lt = mod-eq_of_lt lt
wrapped_sign n true zero lt =
    mod-eq_of_lt lt ∙ sym (ap (λ (k : ℕ). k % 2 ^ n) (let e : 0 + (2 ^ n - 0) ≡ 2 ^ n = omega arith in e)
    ∙ mod_self (2 ^ n))
wrapped_sign n true (suc m) lt =
    ap (λ (k : ℕ). 2 ^ n - suc k) (mod-eq_of_lt (omega (arith, lt)))
    ∙ (let e : 2 ^ n - suc m ≡ 0 + (2 ^ n - suc m) = omega arith in e)
    ∙ sym (mod-eq_of_lt (omega (arith, lt)))

-- a number by its highest bit is its magnitude with a sign
sign_of_bits : (p q x : ℕ) (top : Bool) → q ≡ 2 * p → x < p
    → as_signed q (x + p * bit_number top)
    ≡ with_sign top (if top then (0 + (q - (x + p * bit_number top))) % q else x + p * bit_number top)
sign_of_bits p q x false double lt = lower_half q (x + p * 0) (omega (arith, double, lt))
sign_of_bits p q x true double lt =
    let k = x + p * 1 in
    let less : 0 + (q - k) < q = omega (arith, double, lt) in
    let next : 0 + (q - k) ≡ suc (q - suc k) = omega (arith, double, lt) in
    upper_half q k (omega (arith, double))
    ∙ sym (ap (λ (m : ℕ). neg_ℤ (pos m)) (mod-eq_of_lt less ∙ next))

half_of_bits : (p q x : ℕ) (top : Bool) → q ≡ 2 * p → x < p
    → 2 * (if top then (0 + (q - (x + p * bit_number top))) % q else x + p * bit_number top) ≤ q
half_of_bits p q x false double lt = omega (arith, double, lt)
half_of_bits p q x true double lt =
    let k = x + p * 1 in
    let less : 0 + (q - k) < q = omega (arith, double, lt) in
    let same = mod-eq_of_lt less in
    omega (arith, double, lt, same)

module _ (w : ℕ → Bool) (word : List Lit) (n : ℕ) (d : Lit) (len : length word ≡ n) (some : 0 < n) where
  whole_width : n - 1 + 1 ≡ n
  whole_width = omega (arith, some)

  whole_length : length word ≡ n - 1 + 1
  whole_length = len ∙ sym whole_width

  sign_bits : number_of w word
      ≡ number_of w (take (n - 1) word) + 2 ^ (n - 1) * bit_number (lit_value w (get_or word (n - 1) d))
  sign_bits = number_whole w word (n - 1) d whole_length

  double_half : 2 ^ n ≡ 2 * 2 ^ (n - 1)
  double_half = ap (λ (m : ℕ). 2 ^ m) (sym whole_width) ∙ double_next (n - 1)

  pub signed_parts : signed_of w word
      ≡ with_sign (lit_value w (get_or word (n - 1) d)) (turned_number n (get_or word (n - 1) d) word w)
  signed_parts =
      let top = lit_value w (get_or word (n - 1) d) in
      signed_whole w word (n - 1) d whole_length
      ∙ ap (λ (m : ℕ). as_signed (2 ^ m)
      (number_of w (take (n - 1) word) + 2 ^ (n - 1) * bit_number top)) whole_width
      ∙ sign_of_bits (2 ^ (n - 1)) (2 ^ n) (number_of w (take (n - 1) word)) top double_half
      (take_below w word (n - 1) whole_length)
      ∙ ap (λ (m : ℕ). with_sign top (if top then (0 + (2 ^ n - m)) % 2 ^ n else m)) (sym sign_bits)

  pub half_magnitude : 2 * turned_number n (get_or word (n - 1) d) word w ≤ 2 ^ n
  half_magnitude =
      let top = lit_value w (get_or word (n - 1) d) in
      subst (λ (m : ℕ). 2 * (if top then (0 + (2 ^ n - m)) % 2 ^ n else m) ≤ 2 ^ n) (sym sign_bits)
      (half_of_bits (2 ^ (n - 1)) (2 ^ n) (number_of w (take (n - 1) word)) top double_half
      (take_below w word (n - 1) whole_length))

-- a magnitude is 0 where the number is
pub no_magnitude : (n k : ℕ) (top : Bool) → k ≡ 0 → (if top then (0 + (2 ^ n - k)) % 2 ^ n else k) ≡ 0
no_magnitude n k false none = none
no_magnitude n k true none =
    ap (λ (m : ℕ). m % 2 ^ n) (let e : 0 + (2 ^ n - k) ≡ 2 ^ n = omega (arith, none) in e) ∙ mod_self (2 ^ n)

pub some_magnitude : (n k : ℕ) (top : Bool) → 0 < k → k < 2 ^ n → 0 < (if top then (0 + (2 ^ n - k)) % 2 ^ n else k)
some_magnitude n k false some lt = some
some_magnitude n k true some lt =
    let same : (0 + (2 ^ n - k)) % 2 ^ n ≡ 0 + (2 ^ n - k) = mod-eq_of_lt (omega (arith, some, lt)) in
    omega (arith, same, lt)

or_true : (x y : Bool) (n : ℕ) → (x || y) ≡ true → (y ≡ true → 0 < n) → 0 < bit_number x + 2 * n
or_true true y n is rest = omega arith
or_true false y n is rest = let some = rest is in omega (arith, some)

or_none : (x y : Bool) (n : ℕ) → (x || y) ≡ false → (y ≡ false → n ≡ 0) → bit_number x + 2 * n ≡ 0
or_none true y n is rest = absurd (false≢true (sym is))
or_none false y n is rest = let none = rest is in omega (arith, none)

pub some_bit : (w : ℕ → Bool) (lits : List Lit) → any_of lits w ≡ true → 0 < number_of w lits
some_bit w [] is = absurd (false≢true is)
some_bit w (lit ∷ lits) is =
    or_true (lit_value w lit) (any_of lits w) (number_of w lits) is (λ rest. some_bit w lits rest)

pub no_bit : (w : ℕ → Bool) (lits : List Lit) → any_of lits w ≡ false → number_of w lits ≡ 0
no_bit w [] is = refl
no_bit w (lit ∷ lits) is =
    or_none (lit_value w lit) (any_of lits w) (number_of w lits) is (λ rest. no_bit w lits rest)

div_le : (m k : ℕ) → m / k ≤ m
div_le m zero = let e = div-zero m in omega (arith, e)
div_le m (suc k) = let e = div-add-mod' m (suc k) in
    let f : m / suc k * suc k ≡ m / suc k + m / suc k * k = omega arith in omega (arith, e, f)

-- the answers of a division, from those of the magnitudes
quotient_numbers : (n m k q : ℕ) (s t some sign : Bool) → 2 * m ≤ 2 ^ n → sign ≡ differ s t → (0 < k → q ≡ m / k)
    → (some ≡ true → 0 < k) → (some ≡ false → k ≡ 0)
    → (if some then (if sign then (0 + (2 ^ n - q)) % 2 ^ n else q) else 0)
    ≡ wrapped_number n (quotient_of (with_sign s m) (with_sign t k))
quotient_numbers n m k q s t true sign half signs is has lacks =
    let lt = has refl in
    let less : m / k < 2 ^ n = let le = div_le m k in let some = pow_pos n in omega (arith, le, half, some) in
    ap (λ (u : Bool). if u then (0 + (2 ^ n - q)) % 2 ^ n else q) signs
    ∙ ap (λ (j : ℕ). if differ s t then (0 + (2 ^ n - j)) % 2 ^ n else j) (is lt)
    ∙ sym (wrapped_sign n (differ s t) (m / k) less)
    ∙ sym (ap (wrapped_number n) (quotient_signs s t m k lt))
quotient_numbers n m k q s t false sign half signs is has lacks =
    sym (ap (λ (j : ℕ). wrapped_number n (quotient_of (with_sign s m) (with_sign t j))) (lacks refl)
    ∙ ap (wrapped_number n) (by_none (with_sign s m) t) ∙ mod-eq_of_lt (pow_pos n))

remainder_numbers : (n m k r : ℕ) (s t some : Bool) → 2 * m ≤ 2 ^ n → r ≡ m % k
    → (some ≡ true → 0 < k) → (some ≡ false → k ≡ 0)
    → (if some then (if s then (0 + (2 ^ n - r)) % 2 ^ n else r) else 0)
    ≡ wrapped_number n (remainder_of (with_sign s m) (with_sign t k))
remainder_numbers n m k r s t true half is has lacks =
    let lt = has refl in
    let less : m % k < 2 ^ n = let le = mod-le m k in let some = pow_pos n in omega (arith, le, half, some) in
    ap (λ (j : ℕ). if s then (0 + (2 ^ n - j)) % 2 ^ n else j) is
    ∙ sym (wrapped_sign n s (m % k) less)
    ∙ sym (ap (wrapped_number n) (remainder_signs s t m k lt))
remainder_numbers n m k r s t false half is has lacks =
    sym (ap (λ (j : ℕ). wrapped_number n (remainder_of (with_sign s m) (with_sign t j))) (lacks refl)
    ∙ ap (wrapped_number n) (rest_by_none (with_sign s m) t) ∙ mod-eq_of_lt (pow_pos n))

-- the answers of a division of words
module _ (w : ℕ → Bool) (a b : List Lit) (n : ℕ) (d some : Lit) (word : List Lit) (len_a : length a ≡ n)
    (len_b : length b ≡ n) (wide : 0 < n) (any : lit_value w some ≡ any_of b w) where
  pub quotient_answer : (sign : Lit)
      → lit_value w sign ≡ differ (lit_value w (get_or a (n - 1) d)) (lit_value w (get_or b (n - 1) d))
      → (2 * turned_number n (get_or b (n - 1) d) b w ≤ 2 ^ n → 0 < turned_number n (get_or b (n - 1) d) b w
      → number_of w word ≡ turned_number n (get_or a (n - 1) d) a w / turned_number n (get_or b (n - 1) d) b w)
      → turned_or_zero n some sign word w ≡ wrapped_number n (quotient_of (signed_of w a) (signed_of w b))
  quotient_answer sign signs is =
      let s = lit_value w (get_or a (n - 1) d) in
      let t = lit_value w (get_or b (n - 1) d) in
      let m = turned_number n (get_or a (n - 1) d) a w in
      let k = turned_number n (get_or b (n - 1) d) b w in
      let below : number_of w b < 2 ^ n = subst (λ (i : ℕ). number_of w b < 2 ^ i) len_b (number_below w b) in
      quotient_numbers n m k (number_of w word) s t (lit_value w some) (lit_value w sign)
      (half_magnitude w a n d len_a wide) signs (is (half_magnitude w b n d len_b wide))
      (λ has. some_magnitude n (number_of w b) t (some_bit w b (sym any ∙ has)) below)
      (λ lacks. no_magnitude n (number_of w b) t (no_bit w b (sym any ∙ lacks)))
      ∙ ap (λ (z : ℤ). wrapped_number n (quotient_of z (with_sign t k))) (sym (signed_parts w a n d len_a wide))
      ∙ ap (λ (z : ℤ). wrapped_number n (quotient_of (signed_of w a) z)) (sym (signed_parts w b n d len_b wide))

  pub remainder_answer : (2 * turned_number n (get_or b (n - 1) d) b w ≤ 2 ^ n
      → number_of w word ≡ turned_number n (get_or a (n - 1) d) a w % turned_number n (get_or b (n - 1) d) b w)
      → turned_or_zero n some (get_or a (n - 1) d) word w
      ≡ wrapped_number n (remainder_of (signed_of w a) (signed_of w b))
  remainder_answer is =
      let s = lit_value w (get_or a (n - 1) d) in
      let t = lit_value w (get_or b (n - 1) d) in
      let m = turned_number n (get_or a (n - 1) d) a w in
      let k = turned_number n (get_or b (n - 1) d) b w in
      let below : number_of w b < 2 ^ n = subst (λ (i : ℕ). number_of w b < 2 ^ i) len_b (number_below w b) in
      remainder_numbers n m k (number_of w word) s t (lit_value w some)
      (half_magnitude w a n d len_a wide) (is (half_magnitude w b n d len_b wide))
      (λ has. some_magnitude n (number_of w b) t (some_bit w b (sym any ∙ has)) below)
      (λ lacks. no_magnitude n (number_of w b) t (no_bit w b (sym any ∙ lacks)))
      ∙ ap (λ (z : ℤ). wrapped_number n (remainder_of z (with_sign t k))) (sym (signed_parts w a n d len_a wide))
      ∙ ap (λ (z : ℤ). wrapped_number n (remainder_of (signed_of w a) z)) (sym (signed_parts w b n d len_b wide))
