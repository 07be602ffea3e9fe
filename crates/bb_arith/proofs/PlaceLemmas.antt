-- Words moved by places.
use Rattle.std.proofs.Common.{◌≡◌, ◌<◌, ◌≤◌, ◌+◌, ◌-◌, ◌*◌, ◌/◌, ◌%◌, ◌^◌, ℕ, Bool, true, false, List, [], ◌∷◌, ◌++◌}
use Rattle.std.proofs.Common.{length, take, drop, zero, suc, sym, ap, ◌∙◌, subst, arith}
use Rattle.std.proofs.Math.ListN.{replicate, drop_of_length-le}
use Rattle.std.proofs.Math.Nat.{mul-mod_left}
use Rattle.std.proofs.lemmas.List.{length-replicate, length-take-le, length-drop, take-append-drop, take_all}
use Rattle.std.proofs.lemmas.List.{take-replicate, drop-replicate, append-nil}
use Rattle.std.proofs.lemmas.List.Elements.{recursion_from_All, All-replicate}
use Rattle.std.proofs.lemmas.Nat.{pow-add, pow_pos, mod-pow-add, shl-shr, mod_low, shr_high}
use borrow.Rule.Slice.PartMut.{put_mid}
use Rattle.cn_clauses.specs.declared.lit.Lit.{Lit}
use Rattle.cn_clauses.specs.declared.formula.Formula.{Formula}
use Rattle.cn_clauses.specs.Literals.{lit_value}
use Rattle.bb_gates.specs.Growth.{AreOf}
use Rattle.bb_arith.specs.Words.{number_of}
use Rattle.jv_list.specs.Numbers.{bit_number}
use Rattle.jv_list.proofs.NumberLemmas.{double_power}
use Rattle.bb_arith.proofs.NumberLemmas.{number_below}
use Rattle.bb_arith.proofs.WordLemmas.{IsOf}

joined_bit : (b n p m : ℕ) → b + 2 * (n + p * m) ≡ (b + 2 * n) + (2 * p) * m
joined_bit b n p m = omega arith

-- a word over another
pub number_joined : (w : ℕ → Bool) (xs ys : List Lit)
    → number_of w (xs ++ ys) ≡ number_of w xs + 2 ^ length xs * number_of w ys
number_joined w [] ys = let one : number_of w ys ≡ 0 + 1 * number_of w ys = omega arith in one
number_joined w (x ∷ xs) ys =
    ap (λ (n : ℕ). bit_number (lit_value w x) + 2 * n) (number_joined w xs ys)
    ∙ joined_bit (bit_number (lit_value w x)) (number_of w xs) (2 ^ length xs) (number_of w ys)
    ∙ ap (λ (p : ℕ). number_of w (x ∷ xs) + p * number_of w ys) (double_power (length xs))

repeated_bit : (b : Bool) (p : ℕ) → 0 < p → bit_number b + 2 * (bit_number b * (p - 1)) ≡ bit_number b * (2 * p - 1)
repeated_bit true p lt = omega (arith, lt)
repeated_bit false p lt = omega arith

-- a literal that is repeated
pub number_repeated : (w : ℕ → Bool) (n : ℕ) (lit : Lit)
    → number_of w (replicate n lit) ≡ bit_number (lit_value w lit) * (2 ^ n - 1)
number_repeated w zero lit = let none : 0 ≡ bit_number (lit_value w lit) * (2 ^ 0 - 1) = omega arith in none
number_repeated w (suc n) lit =
    ap (λ (m : ℕ). bit_number (lit_value w lit) + 2 * m) (number_repeated w n lit)
    ∙ repeated_bit (lit_value w lit) (2 ^ n) (pow_pos n)
    ∙ ap (λ (p : ℕ). bit_number (lit_value w lit) * (p - 1)) (double_power n)

pub number_zeros : (w : ℕ → Bool) (n : ℕ) (lit : Lit) → lit_value w lit ≡ false → number_of w (replicate n lit) ≡ 0
number_zeros w n lit is =
    number_repeated w n lit ∙ ap (λ (b : Bool). bit_number b * (2 ^ n - 1)) is
    ∙ (let none : 0 * (2 ^ n - 1) ≡ 0 = omega arith in none)

turned_product : (a b c : ℕ) → a + b * c ≡ c * b + a
turned_product a b c = omega arith

-- the lower bits of a word, and what is above them
number_parts : (w : ℕ → Bool) (lits : List Lit) (n : ℕ) → n ≤ length lits
    → number_of w lits ≡ number_of w (drop n lits) * 2 ^ n + number_of w (take n lits)
number_parts w lits n le =
    ap (number_of w) (sym (take-append-drop n lits))
    ∙ number_joined w (take n lits) (drop n lits)
    ∙ ap (λ (m : ℕ). number_of w (take n lits) + 2 ^ m * number_of w (drop n lits)) (length-take-le n lits le)
    ∙ turned_product (number_of w (take n lits)) (2 ^ n) (number_of w (drop n lits))

pub lower_below : (w : ℕ → Bool) (lits : List Lit) (n : ℕ) → n ≤ length lits → number_of w (take n lits) < 2 ^ n
lower_below w lits n le =
    subst (λ (m : ℕ). number_of w (take n lits) < 2 ^ m) (length-take-le n lits le) (number_below w (take n lits))

pub number_lower : (w : ℕ → Bool) (lits : List Lit) (n : ℕ) → n ≤ length lits
    → number_of w (take n lits) ≡ number_of w lits % 2 ^ n
number_lower w lits n le =
    sym (mod_low (number_of w (drop n lits)) n (number_of w (take n lits)) (lower_below w lits n le))
    ∙ ap (λ (m : ℕ). m % 2 ^ n) (sym (number_parts w lits n le))

pub number_upper : (w : ℕ → Bool) (lits : List Lit) (n : ℕ) → n ≤ length lits
    → number_of w (drop n lits) ≡ number_of w lits / 2 ^ n
number_upper w lits n le =
    sym (shr_high (number_of w (drop n lits)) n (number_of w (take n lits)) (lower_below w lits n le))
    ∙ ap (λ (m : ℕ). m / 2 ^ n) (sym (number_parts w lits n le))

-- the lower bits of a product by a power of two
scaled_lower : (a p q : ℕ) → a % 2 ^ q * 2 ^ p + 0 ≡ (a * 2 ^ p) % 2 ^ (q + p)
scaled_lower a p q =
    ap (λ (m : ℕ). m % 2 ^ q * 2 ^ p + 0) (sym (shl-shr a p))
    ∙ ap (λ (m : ℕ). (a * 2 ^ p / 2 ^ p) % 2 ^ q * 2 ^ p + m) (sym (mul-mod_left a (2 ^ p)))
    ∙ sym (mod-pow-add (a * 2 ^ p) q p)

turned_fill : (z p x : ℕ) → z + p * x ≡ x * p + 0 + z
turned_fill z p x = omega arith

-- a word that is moved up, with a literal below
pub up_value : (w : ℕ → Bool) (word : List Lit) (n p : ℕ) (fill : Lit) → length word ≡ n → p ≤ n
    → number_of w (replicate p fill ++ take (n - p) word)
    ≡ (number_of w word * 2 ^ p) % 2 ^ n + bit_number (lit_value w fill) * (2 ^ p - 1)
up_value w word n p fill len le =
    let whole : n - p + p ≡ n = omega (arith, le) in
    let z = bit_number (lit_value w fill) * (2 ^ p - 1) in
    number_joined w (replicate p fill) (take (n - p) word)
    ∙ ap (λ (m : ℕ). number_of w (replicate p fill) + 2 ^ m * number_of w (take (n - p) word)) (length-replicate p fill)
    ∙ ap (λ (m : ℕ). m + 2 ^ p * number_of w (take (n - p) word)) (number_repeated w p fill)
    ∙ turned_fill z (2 ^ p) (number_of w (take (n - p) word))
    ∙ ap (λ (m : ℕ). m * 2 ^ p + 0 + z) (number_lower w word (n - p) (omega (arith, len)))
    ∙ ap (λ (m : ℕ). m + z) (scaled_lower (number_of w word) p (n - p))
    ∙ ap (λ (m : ℕ). (number_of w word * 2 ^ p) % 2 ^ m + z) whole

-- with zeros below
pub zeros_below : (m p : ℕ) (fill : Bool) → fill ≡ false → m + bit_number fill * p ≡ m
zeros_below m p fill is = ap (λ (b : Bool). m + bit_number b * p) is ∙ (let e : m + 0 * p ≡ m = omega arith in e)

less_one : (p q b : ℕ) → 0 < q → p * (b * (q - 1)) ≡ b * (p * q - p)
less_one p (suc r) b lt = let e : p * suc r - p ≡ p * r = omega arith in
    let f : suc r - 1 ≡ r = omega arith in
    ap (λ (m : ℕ). p * (b * m)) f ∙ (let g : p * (b * r) ≡ b * (p * r) = omega arith in g)
    ∙ ap (λ (m : ℕ). b * m) (sym e)
less_one p zero b lt = absurd (omega (arith, lt))

-- a word that is moved down, with a literal above
pub down_value : (w : ℕ → Bool) (word : List Lit) (n p : ℕ) (fill : Lit) → length word ≡ n → p ≤ n
    → number_of w (drop p word ++ replicate p fill)
    ≡ number_of w word / 2 ^ p + bit_number (lit_value w fill) * (2 ^ n - 2 ^ (n - p))
down_value w word n p fill len le =
    let whole : n - p + p ≡ n = omega (arith, le) in
    let rest : length (drop p word) ≡ n - p = length-drop p word ∙ ap (λ (m : ℕ). m - p) len in
    let b = bit_number (lit_value w fill) in
    number_joined w (drop p word) (replicate p fill)
    ∙ ap (λ (m : ℕ). m + 2 ^ length (drop p word) * number_of w (replicate p fill))
    (number_upper w word p (omega (arith, le, len)))
    ∙ ap (λ (m : ℕ). number_of w word / 2 ^ p + 2 ^ m * number_of w (replicate p fill)) rest
    ∙ ap (λ (m : ℕ). number_of w word / 2 ^ p + 2 ^ (n - p) * m) (number_repeated w p fill)
    ∙ ap (λ (m : ℕ). number_of w word / 2 ^ p + m) (less_one (2 ^ (n - p)) (2 ^ p) b (pow_pos p))
    ∙ ap (λ (m : ℕ). number_of w word / 2 ^ p + b * (m - 2 ^ (n - p)))
    (sym (pow-add 2 (n - p) p) ∙ ap (λ (m : ℕ). 2 ^ m) whole)

-- what a copy of a word's lower literals leaves, with the literal below them
pub up_list : (n p : ℕ) (fill : Lit) (word copied : List Lit) → p ≤ n → copied ≡ take (n - p) word
    → put_mid p (length (replicate n fill) - p) (replicate n fill) copied ≡ replicate p fill ++ take (n - p) word
up_list n p fill word copied le is =
    let len : length (drop p (replicate n fill)) ≡ length (replicate n fill) - p = length-drop p (replicate n fill) in
    ap (λ (ys : List Lit). ys ++ (copied ++ drop (length (replicate n fill) - p) (drop p (replicate n fill))))
    (take-replicate p n fill le)
    ∙ ap (λ (ys : List Lit). replicate p fill ++ (copied ++ ys))
    (drop_of_length-le (drop p (replicate n fill)) (omega (arith, len)))
    ∙ ap (λ (ys : List Lit). replicate p fill ++ ys) (append-nil copied ∙ is)

-- and of its upper literals, with the literal above them
pub down_list : (n p : ℕ) (fill : Lit) (word copied : List Lit) → p ≤ n → length word ≡ n
    → copied ≡ take (length word - p) (drop p word)
    → put_mid 0 (n - p - 0) (replicate n fill) copied ≡ drop p word ++ replicate p fill
down_list n p fill word copied le len is =
    let rest : length (drop p word) ≡ length word - p = length-drop p word in
    ap (λ (ys : List Lit). copied ++ ys)
    (drop-replicate (n - p - 0) n fill
    ∙ ap (λ (m : ℕ). replicate m fill) (let m : n - (n - p - 0) ≡ p = omega (arith, le) in m))
    ∙ ap (λ (ys : List Lit). ys ++ replicate p fill)
    (is ∙ take_all (length word - p) (drop p word) (omega (arith, rest)))

-- a word that repeats a literal of a formula
pub repeated_within : (f : Formula) (n : ℕ) (lit : Lit) → IsOf f lit → AreOf f (replicate n lit)
repeated_within f n lit one = recursion_from_All (IsOf f) (replicate n lit) (All-replicate (IsOf f) n lit one)
