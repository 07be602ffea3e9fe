-- The bits of numbers as values of literals.
use Rattle.std.proofs.Common.{◌≡◌, ◌<◌, ◌+◌, ◌*◌, ◌^◌, ◌%◌, ◌/◌, ◌==◌, ℕ, Bool, false, true, List, [], ◌∷◌, length}
use Rattle.std.proofs.Common.{map, zero, suc, refl, sym, ap, ◌∙◌, arith}
use Rattle.cn_clauses.specs.declared.lit.Lit.{Lit}
use Rattle.cn_clauses.specs.Literals.{lit_value}
use Rattle.cn_clauses.specs.Satisfaction.{Agrees, IsClauseBelow}
use Rattle.cn_clauses.specs.Laws.{ValueAgrees}
use Rattle.bb_arith.specs.Words.{number_of}
use Rattle.jv_list.specs.Numbers.{bit_number}
use Rattle.jv_list.proofs.NumberLemmas.{double_power}
use Rattle.bb_terms.proofs.NumberLemmas.{bit_rest}

-- assignments that agree give a word one number
pub number_agrees : ValueAgrees → (n : ℕ) (a b : ℕ → Bool) (lits : List Lit) → Agrees n a b → IsClauseBelow n lits
    → number_of a lits ≡ number_of b lits
number_agrees agree n a b [] agrees below = refl
number_agrees agree n a b (lit ∷ lits) agrees below =
    ap (λ (x : Bool). bit_number x + 2 * number_of a lits) (agree n a b lit agrees below.0)
    ∙ ap (λ (m : ℕ). bit_number (lit_value b lit) + 2 * m) (number_agrees agree n a b lits agrees below.1)

-- the n lowest bits of a number
abbrev pub bits_of : ℕ → ℕ → List Bool
bits_of zero x = []
bits_of (suc n) x = (x % 2 == 1) ∷ bits_of n (x / 2)

pub bits_wide : (n x : ℕ) → length (bits_of n x) ≡ n
bits_wide zero x = refl
bits_wide (suc n) x = ap suc (bits_wide n (x / 2))

same_cons : (x y : Bool) (xs ys : List Bool) → (x ∷ xs) ≡ (y ∷ ys) → (x ≡ y) × (xs ≡ ys)
same_cons x y xs ys e = (cc, cc)

no_cons : (x : Bool) (xs : List Bool) → [] ≡ (x ∷ xs) → ⊥
no_cons x xs e = let wrong : 0 ≡ suc (length xs) = ap (length {A = Bool}) e in omega (arith, wrong)

halves : (x n : ℕ) → n ≡ x / 2 → x % 2 + 2 * n ≡ x
halves x n is = omega (arith, is)

-- a word with these values shows the number
pub bits_shown : (w : ℕ → Bool) (lits : List Lit) (n x : ℕ) → x < 2 ^ n → map (lit_value w) lits ≡ bits_of n x
    → number_of w lits ≡ x
bits_shown w [] zero x lt same = let small : x < 1 = lt in omega (arith, small)
bits_shown w [] (suc n) x lt same = absurd (no_cons (x % 2 == 1) (bits_of n (x / 2)) same)
bits_shown w (lit ∷ lits) zero x lt same = absurd (no_cons (lit_value w lit) (map (lit_value w) lits) (sym same))
bits_shown w (lit ∷ lits) (suc n) x lt same =
    let parts = same_cons (lit_value w lit) (x % 2 == 1) (map (lit_value w) lits) (bits_of n (x / 2)) same in
    let twice = double_power n in
    let half : x / 2 < 2 ^ n = omega (arith, lt, twice) in
    let bit : x % 2 < 2 = omega arith in
    let rest = bits_shown w lits n (x / 2) half parts.1 in
    ap (λ (b : Bool). bit_number b + 2 * number_of w lits) parts.0
    ∙ ap (λ (b : ℕ). b + 2 * number_of w lits) (bit_rest (x % 2) bit) ∙ halves x (number_of w lits) rest

same_parts : (x y : Bool) (n m : ℕ) → bit_number x + 2 * n ≡ bit_number y + 2 * m → (x ≡ y) × (n ≡ m)
same_parts true true n m e = (refl, omega (arith, e))
same_parts true false n m e = absurd (omega (arith, e))
same_parts false true n m e = absurd (omega (arith, e))
same_parts false false n m e = (refl, omega (arith, e))

-- a word that shows one number has one value of each literal
pub same_bits : (a b : ℕ → Bool) (lits : List Lit) → number_of a lits ≡ number_of b lits
    → map (lit_value a) lits ≡ map (lit_value b) lits
same_bits a b [] same = refl
same_bits a b (lit ∷ lits) same =
    let parts = same_parts (lit_value a lit) (lit_value b lit) (number_of a lits) (number_of b lits) same in
    ap (λ (x : Bool). x ∷ map (lit_value a) lits) parts.0
    ∙ ap (λ (xs : List Bool). lit_value b lit ∷ xs) (same_bits a b lits parts.1)
