-- The order of words in two's complement.
use Rattle.std.proofs.Common.{◌≡◌, ◌<◌, ◌≤◌, ◌+◌, ◌-◌, ◌*◌, ◌^◌, ℕ, ℤ, pos, negsuc, Bool, true, false, List, [], ◌∷◌}
use Rattle.std.proofs.Common.{length, take, get_or, set, nat_lt, int_lt, suc, sym, ap, ◌∙◌, subst, refl, arith}
use Rattle.std.proofs.Common.{if◌then◌else◌}
use Rattle.std.proofs.lemmas.Bool.{lt-ltb, le-ltb}
use Rattle.std.proofs.lemmas.List.{length-set, length-take-le, take_all}
use Rattle.cn_clauses.specs.declared.lit.Lit.{Lit}
use Rattle.cn_clauses.specs.declared.formula.Formula.{Formula}
use Rattle.cn_clauses.specs.Literals.{lit_value}
use Rattle.cn_clauses.specs.Extension.{IsGate}
use Rattle.bb_arith.specs.Words.{number_of, signed_of}
use Rattle.jv_list.specs.Numbers.{bit_number}
use Rattle.jv_list.proofs.NumberLemmas.{double_next}
use Rattle.bb_arith.proofs.NumberLemmas.{number_below, same_order}
use Rattle.bb_arith.proofs.WordLemmas.{number_take, set_number}

-- a number below q as a signed one
abbrev pub as_signed : ℕ → ℕ → ℤ
as_signed q k = if nat_lt (2 * k) q then pos k else negsuc (q - suc k)

pub lower_half : (q k : ℕ) → 2 * k < q → as_signed q k ≡ pos k
lower_half q k lt = ap (λ (t : Bool). if t then pos k else negsuc (q - suc k)) (lt-ltb (2 * k) q lt)

pub upper_half : (q k : ℕ) → q ≤ 2 * k → as_signed q k ≡ negsuc (q - suc k)
upper_half q k le = ap (λ (t : Bool). if t then pos k else negsuc (q - suc k)) (le-ltb (2 * k) q le)

same_signs : (m n k l : ℤ) → m ≡ k → n ≡ l → int_lt m n ≡ int_lt k l
same_signs m n k l first second = ap (λ (z : ℤ). int_lt z n) first ∙ ap (int_lt k) second

-- the order of two numbers whose highest bits are exchanged is that of the signed numbers
signed_order : (p q x y : ℕ) (a b : Bool) → q ≡ 2 * p → x < p → y < p
    → nat_lt (x + p * bit_number b) (y + p * bit_number a)
    ≡ int_lt (as_signed q (x + p * bit_number a)) (as_signed q (y + p * bit_number b))
signed_order p q x y true true double x_lt y_lt =
    same_order (x + p * 1) (y + p * 1) (q - suc (y + p * 1)) (q - suc (x + p * 1))
    (λ h. omega (arith, h, double, y_lt)) (λ h. omega (arith, h, double, x_lt))
    ∙ sym (same_signs _ _ _ _ (upper_half q (x + p * 1) (omega (arith, double)))
    (upper_half q (y + p * 1) (omega (arith, double))))
signed_order p q x y true false double x_lt y_lt =
    lt-ltb (x + p * 0) (y + p * 1) (omega (arith, x_lt))
    ∙ sym (same_signs _ _ _ _ (upper_half q (x + p * 1) (omega (arith, double)))
    (lower_half q (y + p * 0) (omega (arith, double, y_lt))))
signed_order p q x y false true double x_lt y_lt =
    le-ltb (x + p * 1) (y + p * 0) (omega (arith, y_lt))
    ∙ sym (same_signs _ _ _ _ (lower_half q (x + p * 0) (omega (arith, double, x_lt)))
    (upper_half q (y + p * 1) (omega (arith, double))))
signed_order p q x y false false double x_lt y_lt =
    same_order (x + p * 0) (y + p * 0) (x + p * 0) (y + p * 0) (λ h. h) (λ h. h)
    ∙ sym (same_signs _ _ _ _ (lower_half q (x + p * 0) (omega (arith, double, x_lt)))
    (lower_half q (y + p * 0) (omega (arith, double, y_lt))))

-- all bits of a word, the highest apart
pub number_whole : (w : ℕ → Bool) (lits : List Lit) (n : ℕ) (d : Lit) → length lits ≡ n + 1
    → number_of w lits ≡ number_of w (take n lits) + 2 ^ n * bit_number (lit_value w (get_or lits n d))
number_whole w lits n d len =
    ap (number_of w) (sym (take_all (n + 1) lits (omega (arith, len)))) ∙ number_take w lits n d (omega (arith, len))

number_topped : (w : ℕ → Bool) (lits : List Lit) (n : ℕ) (top : Lit) → length lits ≡ n + 1
    → number_of w (set lits n top) ≡ number_of w (take n lits) + 2 ^ n * bit_number (lit_value w top)
number_topped w lits n top len =
    ap (number_of w)
    (sym (take_all (n + 1) (set lits n top) (let same = length-set lits n top in omega (arith, len, same))))
    ∙ set_number w lits n top (lit_value w top) (omega (arith, len)) refl

pub take_below : (w : ℕ → Bool) (lits : List Lit) (n : ℕ) → length lits ≡ n + 1 → number_of w (take n lits) < 2 ^ n
take_below w lits n len =
    subst (λ (m : ℕ). number_of w (take n lits) < 2 ^ m) (length-take-le n lits (omega (arith, len)))
    (number_below w (take n lits))

pub signed_whole : (w : ℕ → Bool) (lits : List Lit) (n : ℕ) (d : Lit) → length lits ≡ n + 1
    → signed_of w lits ≡ as_signed (2 ^ (n + 1))
    (number_of w (take n lits) + 2 ^ n * bit_number (lit_value w (get_or lits n d)))
signed_whole w lits n d len =
    ap (λ (m : ℕ). as_signed (2 ^ m) (number_of w lits)) len
    ∙ ap (as_signed (2 ^ (n + 1))) (number_whole w lits n d len)

-- two words whose highest literals are exchanged
exchanged_order : (w : ℕ → Bool) (a b : List Lit) (n : ℕ) (d : Lit) → length a ≡ n + 1 → length b ≡ n + 1
    → nat_lt (number_of w (set a n (get_or b n d))) (number_of w (set b n (get_or a n d))) ≡ int_lt (signed_of w a)
    (signed_of w b)
exchanged_order w a b n d len_a len_b =
    ap (λ (k : ℕ). nat_lt k (number_of w (set b n (get_or a n d)))) (number_topped w a n (get_or b n d) len_a)
    ∙ ap (nat_lt (number_of w (take n a) + 2 ^ n * bit_number (lit_value w (get_or b n d))))
    (number_topped w b n (get_or a n d) len_b)
    ∙ signed_order (2 ^ n) (2 ^ (n + 1)) (number_of w (take n a)) (number_of w (take n b))
    (lit_value w (get_or a n d)) (lit_value w (get_or b n d)) (double_next n) (take_below w a n len_a)
    (take_below w b n len_b)
    ∙ sym (same_signs _ _ _ _ (signed_whole w a n d len_a) (signed_whole w b n d len_b))

-- words without a bit
empty_order : (w : ℕ → Bool) (a b : List Lit) → length a ≡ 0 → length b ≡ 0
    → nat_lt (number_of w a) (number_of w b) ≡ int_lt (signed_of w a) (signed_of w b)
empty_order w [] [] len_a len_b = refl
empty_order w [] (y ∷ b) len_a len_b = absurd (let none = len_b in omega (arith, none))
empty_order w (x ∷ a) b len_a len_b = absurd (let none = len_a in omega (arith, none))

pub exchanged_words : (a b x y : List Lit) (n : ℕ) (d : Lit) → length a ≡ n + 1 → length b ≡ n + 1
    → x ≡ set a n (get_or b n d) → y ≡ set b n (get_or a n d) → (w : ℕ → Bool)
    → nat_lt (number_of w x) (number_of w y) ≡ int_lt (signed_of w a) (signed_of w b)
exchanged_words a b x y n d len_a len_b is_x is_y w =
    ap (λ (lits : List Lit). nat_lt (number_of w lits) (number_of w y)) is_x
    ∙ ap (λ (lits : List Lit). nat_lt (number_of w (set a n (get_or b n d))) (number_of w lits)) is_y
    ∙ exchanged_order w a b n d len_a len_b

pub empty_words : (a b x y : List Lit) → length a ≡ 0 → length b ≡ 0 → x ≡ a → y ≡ b → (w : ℕ → Bool)
    → nat_lt (number_of w x) (number_of w y) ≡ int_lt (signed_of w a) (signed_of w b)
empty_words a b x y len_a len_b is_x is_y w =
    ap (λ (lits : List Lit). nat_lt (number_of w lits) (number_of w y)) is_x
    ∙ ap (λ (lits : List Lit). nat_lt (number_of w a) (number_of w lits)) is_y
    ∙ empty_order w a b len_a len_b

-- a literal for a value is one for each value that is the same
pub gate_same : (old new : Formula) (lit : Lit) (value other : (ℕ → Bool) → Bool) → ((w : ℕ → Bool) → value w ≡ other w)
    → IsGate old new lit value → IsGate old new lit other
gate_same old new lit value other same gate = record {
  extends = gate.extends;
  shows = record { within = gate.shows.within; is = λ w h. gate.shows.is w h ∙ same w };
}
