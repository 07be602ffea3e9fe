-- Numbers of words.
use Rattle.std.proofs.Common.{◌≡◌, ◌<◌, ◌+◌, ◌*◌, ◌^◌, ◌%◌, ◌/◌, ◌==◌, ℕ, Bool, true, false, List, [], ◌∷◌, ◌++◌}
use Rattle.std.proofs.Common.{length}
use Rattle.std.proofs.Common.{take, drop, get_or, refl, sym, ap, ◌∙◌, arith, zero, suc, subst}
use Rattle.std.proofs.Math.Nat.{mod-eq_of_lt, add-mul-mod_self_left}
use Rattle.std.proofs.Math.Seq.{take-suc}
use Rattle.std.proofs.lemmas.List.{length-take-le}
use Rattle.std.proofs.lemmas.Nat.{and_block, or_block, xor_block, mod-pow-add}
use Rattle.cn_clauses.specs.declared.lit.Lit.{Lit}
use Rattle.cn_clauses.specs.Literals.{lit_value}
use Rattle.bb_arith.specs.Words.{number_of}
use Rattle.jv_list.specs.Numbers.{bit_number}
use Rattle.jv_list.proofs.NumberLemmas.{double_power, word_append, word_below}
use Rattle.bb_terms.specs.declared.bits.BitOp.{BitOp}
use Rattle.bb_terms.specs.declared.bits.BitOp.TheVariants.{And, Or, Xor}
use Rattle.bb_terms.specs.Calls.Words.{joined_bits, bits_number}

-- a word with one more bit at its upper end
pub number_append : (w : ℕ → Bool) (lits : List Lit) (lit : Lit)
    → number_of w (lits ++ lit ∷ []) ≡ number_of w lits + 2 ^ length lits * bit_number (lit_value w lit)
number_append w lits lit = word_append (lit_value w) (number_of w) refl (λ x xs. refl) lits lit

pub number_below : (w : ℕ → Bool) (lits : List Lit) → number_of w lits < 2 ^ length lits
number_below w lits = word_below (lit_value w) (number_of w) refl (λ x xs. refl) lits

pub below_width : (w : ℕ → Bool) (lits : List Lit) (n : ℕ) → length lits ≡ n → number_of w lits < 2 ^ n
below_width w lits n wide = subst (λ (m : ℕ). number_of w lits < 2 ^ m) wide (number_below w lits)

-- a number that a word shows is its own remainder
pub reduced : (w : ℕ → Bool) (lits : List Lit) (n x : ℕ) → length lits ≡ n → number_of w lits ≡ x
    → number_of w lits ≡ x % 2 ^ n
reduced w lits n x wide is =
    is ∙ sym (mod-eq_of_lt (subst (λ (m : ℕ). m < 2 ^ n) is (below_width w lits n wide)))

pub take_next : (lits : List Lit) (i : ℕ) (d : Lit) → i < length lits
    → take i lits ++ get_or lits i d ∷ [] ≡ take (i + 1) lits
take_next lits i d lt =
    let next : i + 1 ≡ suc i = omega arith in
    sym (ap (λ (n : ℕ). take n lits) next ∙ take-suc lits i d lt)

-- the first i + 1 bits of a word
pub number_take : (w : ℕ → Bool) (lits : List Lit) (i : ℕ) (d : Lit) → i < length lits
    → number_of w (take (i + 1) lits) ≡ number_of w (take i lits) + 2 ^ i * bit_number (lit_value w (get_or lits i d))
number_take w lits i d lt =
    let len : length (take i lits) ≡ i = length-take-le i lits (omega (arith, lt)) in
    ap (number_of w) (sym (take_next lits i d lt)) ∙ number_append w (take i lits) (get_or lits i d)
    ∙ ap (λ (n : ℕ). number_of w (take i lits) + 2 ^ n * bit_number (lit_value w (get_or lits i d))) len

turned : (n b p : ℕ) → n + p * b ≡ b * p + n
turned n b p = omega arith

bit_join : (kind : BitOp) (x y : Bool)
    → bits_number kind (bit_number x) (bit_number y) ≡ bit_number (joined_bits kind x y)
bit_join And true true = refl
bit_join And true false = refl
bit_join And false true = refl
bit_join And false false = refl
bit_join Or true true = refl
bit_join Or true false = refl
bit_join Or false true = refl
bit_join Or false false = refl
bit_join Xor true true = refl
bit_join Xor true false = refl
bit_join Xor false true = refl
bit_join Xor false false = refl

blocks : (kind : BitOp) (i n m a b : ℕ) → n < 2 ^ i → m < 2 ^ i
    → bits_number kind (a * 2 ^ i + n) (b * 2 ^ i + m) ≡ bits_number kind a b * 2 ^ i + bits_number kind n m
blocks And i n m a b = and_block i a b n m
blocks Or i n m a b = or_block i a b n m
blocks Xor i n m a b = xor_block i a b n m

swapped : (b p n : ℕ) → b * p + n ≡ n + p * b
swapped b p n = omega arith

-- an operation on bits, with a bit more
pub bits_next : (kind : BitOp) (i n m : ℕ) (x y : Bool) → n < 2 ^ i → m < 2 ^ i
    → bits_number kind n m + 2 ^ i * bit_number (joined_bits kind x y)
    ≡ bits_number kind (n + 2 ^ i * bit_number x) (m + 2 ^ i * bit_number y)
bits_next kind i n m x y n_lt m_lt =
    sym (swapped (bit_number (joined_bits kind x y)) (2 ^ i) (bits_number kind n m))
    ∙ ap (λ (b : ℕ). b * 2 ^ i + bits_number kind n m) (sym (bit_join kind x y))
    ∙ sym (blocks kind i n m (bit_number x) (bit_number y) n_lt m_lt)
    ∙ ap (λ (k : ℕ). bits_number kind k (bit_number y * 2 ^ i + m)) (swapped (bit_number x) (2 ^ i) n)
    ∙ ap (bits_number kind (n + 2 ^ i * bit_number x)) (swapped (bit_number y) (2 ^ i) m)

pub bit_rest : (r : ℕ) → r < 2 → bit_number (r == 1) ≡ r
bit_rest zero lt = refl
bit_rest (suc zero) lt = refl
bit_rest (suc (suc r)) lt = absurd (omega (arith, lt))

-- a number with a bit more
pub constant_next : (k i : ℕ) → k % 2 ^ i + 2 ^ i * bit_number (k / 2 ^ i % 2 == 1) ≡ k % 2 ^ (i + 1)
constant_next k i =
    let next : 1 + i ≡ i + 1 = omega arith in
    let lt : k / 2 ^ i % 2 < 2 = omega arith in
    ap (λ (b : ℕ). k % 2 ^ i + 2 ^ i * b) (bit_rest (k / 2 ^ i % 2) lt)
    ∙ sym (swapped (k / 2 ^ i % 2) (2 ^ i) (k % 2 ^ i)) ∙ sym (mod-pow-add k 1 i)
    ∙ ap (λ (n : ℕ). k % 2 ^ n) next

split_step : (b x t p d : ℕ) → x ≡ t + p * d → b + 2 * x ≡ (b + 2 * t) + (2 * p) * d
split_step b x t p d is = ap (λ (n : ℕ). b + 2 * n) is ∙ omega arith

nothing : (p : ℕ) → 0 ≡ 0 + p * 0
nothing p = omega arith

number_split : (w : ℕ → Bool) (n : ℕ) (lits : List Lit)
    → number_of w lits ≡ number_of w (take n lits) + 2 ^ n * number_of w (drop n lits)
number_split w zero lits = omega arith
number_split w (suc n) [] = nothing (2 ^ suc n)
number_split w (suc n) (lit ∷ lits) =
    split_step (bit_number (lit_value w lit)) (number_of w lits) (number_of w (take n lits)) (2 ^ n)
    (number_of w (drop n lits)) (number_split w n lits)
    ∙ ap (λ (p : ℕ). number_of w (lit ∷ take n lits) + p * number_of w (drop n lits)) (double_power n)

-- the number of the lowest bits
pub number_low : (w : ℕ → Bool) (n : ℕ) (lits : List Lit) → length (take n lits) ≡ n
    → number_of w (take n lits) ≡ number_of w lits % 2 ^ n
number_low w n lits wide =
    sym (ap (λ (x : ℕ). x % 2 ^ n) (number_split w n lits)
    ∙ add-mul-mod_self_left (number_of w (take n lits)) (2 ^ n) (number_of w (drop n lits))
    ∙ mod-eq_of_lt (below_width w (take n lits) n wide))
