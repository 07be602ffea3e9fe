-- Shifts that copy the sign, as shifts of signed numbers.
use Rattle.std.proofs.Common.{◌≡◌, ◌<◌, ◌≤◌, ◌+◌, ◌-◌, ◌*◌, ◌/◌, ◌%◌, ◌^◌, ℕ, ℤ, pos, negsuc, Bool, true, false, List}
use Rattle.std.proofs.Common.{length, take, get_or, zero, suc, refl, sym, ap, ◌∙◌, subst, arith}
use Rattle.std.specs.Int.{int_shr}
use Rattle.std.proofs.Math.Nat.{mod-eq_of_lt}
use Rattle.std.proofs.lemmas.Nat.{div-mul-add, div_below, pow-add, pow_pos, shr_le, mod_below, div-add-mod'}
use Rattle.cn_clauses.specs.declared.lit.Lit.{Lit}
use Rattle.cn_clauses.specs.Literals.{lit_value}
use Rattle.bb_arith.specs.Words.{number_of, signed_of}
use Rattle.jv_list.specs.Numbers.{bit_number, wrapped_number}
use Rattle.bb_arith.specs.Calls.Moves.{moved_number}
use Rattle.jv_list.proofs.NumberLemmas.{double_next}
use Rattle.bb_arith.proofs.SignLemmas.{as_signed, lower_half, upper_half, number_whole, signed_whole, take_below}

shifted_positive : (k q : ℕ) → int_shr (pos k) q ≡ pos (k / 2 ^ q)
shifted_positive k q = refl

shifted_negative : (k q : ℕ) → int_shr (negsuc k) q ≡ negsuc (k / 2 ^ q)
shifted_negative k q = refl

-- the quotient of what is left above a number, where b and 1 are what is left above its quotient
rest_above : (a b d r p : ℕ) → r < d → p ≡ d * (a + 1 + b) → p - suc (a * d + r) ≡ b * d + (d - 1 - r)
rest_above a b d r p lt e =
    let f : d * (a + 1 + b) ≡ a * d + d + b * d = omega arith in
    omega (arith, lt, e, f)

quotient_above : (a b d r p : ℕ) → r < d → p ≡ d * (a + 1 + b) → (p - suc (a * d + r)) / d ≡ b
quotient_above a b d r p lt e =
    ap (λ (m : ℕ). m / d) (rest_above a b d r p lt e) ∙ div-mul-add b d (d - 1 - r) (omega (arith, lt))

filled_above : (a b d p : ℕ) → 0 < d → p ≡ d * (a + 1 + b) → a + 1 * (p - (a + 1 + b)) ≡ p - suc (b % p)
filled_above a b zero p lt e = absurd (omega (arith, lt))
filled_above a b (suc d) p lt e =
    let f : suc d * (a + 1 + b) ≡ a + 1 + b + d * (a + 1 + b) = omega arith in
    let below : b < p = omega (arith, e, f) in
    let same : b % p ≡ b = mod-eq_of_lt below in
    omega (arith, e, f, same)

-- a number with its highest bit, moved down with that bit above, is its signed number moved down
sign_kept : (n q k : ℕ) (p e d : ℕ) → p ≡ d * e → 0 < d → k < p → k / d + 1 * (p - e) ≡ p - suc ((p - suc k) / d % p)
sign_kept n q k p e d whole some lt =
    let a = k / d in
    let r = k % d in
    let b = e - 1 - a in
    let split : a * d + r ≡ k = div-add-mod' k d in
    let r_lt : r < d = mod_below k d some in
    let a_lt : a < e = div_below k d e some (let f : d * e ≡ e * d = omega arith in omega (arith, lt, whole, f)) in
    let parts : e ≡ a + 1 + b = omega (arith, a_lt) in
    let shape : p ≡ d * (a + 1 + b) = whole ∙ ap (λ (m : ℕ). d * m) parts in
    ap (λ (m : ℕ). a + 1 * (p - m)) parts
    ∙ filled_above a b d p some shape
    ∙ ap (λ (m : ℕ). p - suc (m % p)) (sym (quotient_above a b d r p r_lt shape)
    ∙ ap (λ (m : ℕ). (p - suc m) / d) split)

two_parts : (n q : ℕ) → q ≤ n → 2 ^ n ≡ 2 ^ q * 2 ^ (n - q)
two_parts n q le =
    let whole : n ≡ q + (n - q) = omega (arith, le) in ap (λ (m : ℕ). 2 ^ m) whole ∙ pow-add 2 q (n - q)

signed_move : (n q x : ℕ) (top : Bool) → x < 2 ^ n → q ≤ n + 1
    → moved_number true (n + 1) top q (x + 2 ^ n * bit_number top)
    ≡ wrapped_number (n + 1) (int_shr (as_signed (2 ^ (n + 1)) (x + 2 ^ n * bit_number top)) q)
signed_move n q x true lt le =
    let k = x + 2 ^ n * 1 in
    let double = double_next n in
    sign_kept (n + 1) q k (2 ^ (n + 1)) (2 ^ (n + 1 - q)) (2 ^ q) (two_parts (n + 1) q le) (pow_pos q)
    (omega (arith, lt, double))
    ∙ sym (ap (wrapped_number (n + 1)) (ap (λ (z : ℤ). int_shr z q) (upper_half (2 ^ (n + 1)) k (omega (arith, double)))
    ∙ shifted_negative (2 ^ (n + 1) - suc k) q))
signed_move n q x false lt le =
    let k = x + 2 ^ n * 0 in
    let double = double_next n in
    let less = shr_le k q in
    (let e : k / 2 ^ q + 0 * (2 ^ (n + 1) - 2 ^ (n + 1 - q)) ≡ k / 2 ^ q = omega arith in e)
    ∙ sym (mod-eq_of_lt (omega (arith, less, lt, double)))
    ∙ sym (ap (wrapped_number (n + 1)) (ap (λ (z : ℤ). int_shr z q)
    (lower_half (2 ^ (n + 1)) k (omega (arith, lt, double))) ∙ shifted_positive k q))

-- a word moved down with its highest literal above
pub signed_shift : (w : ℕ → Bool) (word : List Lit) (n q : ℕ) (d : Lit) → length word ≡ n + 1 → q ≤ n + 1
    → moved_number true (n + 1) (lit_value w (get_or word n d)) q (number_of w word)
    ≡ wrapped_number (n + 1) (int_shr (signed_of w word) q)
signed_shift w word n q d len le =
    let top = lit_value w (get_or word n d) in
    ap (moved_number true (n + 1) top q) (number_whole w word n d len)
    ∙ signed_move n q (number_of w (take n word)) top (take_below w word n len) le
    ∙ sym (ap (λ (z : ℤ). wrapped_number (n + 1) (int_shr z q)) (signed_whole w word n d len))

pub signed_shift_at : (w : ℕ → Bool) (word : List Lit) (n q : ℕ) (d : Lit) → length word ≡ n → 0 < n → q ≤ n
    → moved_number true n (lit_value w (get_or word (n - 1) d)) q (number_of w word)
    ≡ wrapped_number n (int_shr (signed_of w word) q)
signed_shift_at w word n q d len some le =
    let m = n - 1 in
    let is : m + 1 ≡ n = omega (arith, some) in
    subst (λ (k : ℕ). moved_number true k (lit_value w (get_or word m d)) q (number_of w word)
    ≡ wrapped_number k (int_shr (signed_of w word) q)) is
    (signed_shift w word m q d (len ∙ sym is) (omega (arith, le, is)))
