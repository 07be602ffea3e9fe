-- Words of a formula's variables, and words with one bit more.
use Rattle.std.proofs.Common.{◌≡◌, ◌<◌, ◌≤◌, ◌+◌, ◌*◌, ◌^◌, ℕ, Bool, not, true, false, List, [], ◌∷◌, ◌++◌, length, map}
use Rattle.std.proofs.Common.{take, get_or, set, sym, ap, ◌∙◌, subst, arith}
use Rattle.std.proofs.lemmas.List.{length-take-le, take_all, take_more_set, map-append}
use Rattle.std.proofs.lemmas.List.Elements.{All-from_recursion, recursion_from_All, All-weaker, All-push, All-get_or}
use Rattle.std.proofs.lemmas.List.Elements.{All-cons, All-nil, All-set, All-map}
use Rattle.cn_clauses.specs.declared.lit.Lit.{Lit}
use Rattle.cn_clauses.specs.declared.formula.Formula.{Formula}
use Rattle.cn_clauses.specs.Literals.{variable_of, opposite_of, lit_value}
use Rattle.cn_clauses.specs.Formulas.{variables_of}
use Rattle.cn_clauses.specs.Laws.{OppositeValue, OppositeVariable}
use Rattle.bb_gates.specs.Growth.{AreOf}
use Rattle.bb_arith.specs.Words.{number_of}
use Rattle.jv_list.specs.Numbers.{bit_number}
use Rattle.jv_list.proofs.NumberLemmas.{double_power}
use Rattle.bb_arith.proofs.NumberLemmas.{number_append}
use Rattle.bb_arith.proofs.OrderLemmas.{take_next}

abbrev pub IsOf : Formula → Lit → Type 0
IsOf formula lit = variable_of lit < variables_of formula

pub word_grown : (old new : Formula) (lits : List Lit) → variables_of old ≤ variables_of new → AreOf old lits
    → AreOf new lits
word_grown old new lits le all =
    recursion_from_All (IsOf new) lits
    (All-weaker (IsOf old) (IsOf new) (λ lit lt. omega (arith, lt, le)) lits (All-from_recursion (IsOf old) lits all))

pub word_push : (f : Formula) (lits : List Lit) (lit : Lit) → AreOf f lits → IsOf f lit → AreOf f (lits ++ lit ∷ [])
word_push f lits lit all one =
    recursion_from_All (IsOf f) (lits ++ lit ∷ [])
    (All-push (IsOf f) lits lit (All-from_recursion (IsOf f) lits all) one)

pub word_set : (f : Formula) (lits : List Lit) (i : ℕ) (lit : Lit) → AreOf f lits → IsOf f lit
    → AreOf f (set lits i lit)
word_set f lits i lit all one =
    recursion_from_All (IsOf f) (set lits i lit)
    (All-set (IsOf f) lits i lit one (All-from_recursion (IsOf f) lits all))

-- a literal of a word, in a formula that grew
pub bit_within : (old new : Formula) (lits : List Lit) (i : ℕ) (d : Lit) → variables_of old ≤ variables_of new
    → AreOf old lits
    → i < length lits → IsOf new (get_or lits i d)
bit_within old new lits i d le all lt =
    let one = All-get_or (IsOf old) lits i d lt (All-from_recursion (IsOf old) lits all) in omega (arith, one, le)

pub three_of : (f : Formula) (x y z : Lit) → IsOf f x → IsOf f y → IsOf f z → AreOf f (x ∷ y ∷ z ∷ [])
three_of f x y z hx hy hz =
    recursion_from_All (IsOf f) (x ∷ y ∷ z ∷ [])
    (All-cons (IsOf f) x (y ∷ z ∷ []) hx
    (All-cons (IsOf f) y (z ∷ []) hy (All-cons (IsOf f) z [] hz (All-nil (IsOf f)))))

pub opposites_within : OppositeVariable → (f : Formula) (lits : List Lit) → AreOf f lits
    → AreOf f (map opposite_of lits)
opposites_within same f lits all =
    recursion_from_All (IsOf f) (map opposite_of lits)
    (All-map (IsOf f) opposite_of lits
    (All-weaker (IsOf f) (λ lit. IsOf f (opposite_of lit))
    (λ lit lt. subst (λ (v : ℕ). v < variables_of f) (sym (same lit)) lt) lits
    (All-from_recursion (IsOf f) lits all)))

turned_bit : (x : Bool) (n m p : ℕ) → n + m + 1 ≡ p → (bit_number (not x) + 2 * n) + (bit_number x + 2 * m) + 1 ≡ 2 * p
turned_bit true n m p e = omega (arith, e)
turned_bit false n m p e = omega (arith, e)

-- a word and its opposite show together the greatest number
pub number_opposites : OppositeValue → (w : ℕ → Bool) (lits : List Lit)
    → number_of w (map opposite_of lits) + number_of w lits + 1 ≡ 2 ^ length lits
number_opposites opposite w [] = let one : 0 + 0 + 1 ≡ 2 ^ 0 = omega arith in one
number_opposites opposite w (lit ∷ lits) =
    ap (λ (x : Bool). bit_number x + 2 * number_of w
    (map opposite_of lits) + (bit_number (lit_value w lit) + 2 * number_of w lits) + 1) (opposite w lit)
    ∙ turned_bit (lit_value w lit) (number_of w (map opposite_of lits)) (number_of w lits) (2 ^ length lits)
    (number_opposites opposite w lits)
    ∙ double_power (length lits)

-- the first i + 1 bits of a word
pub number_take : (w : ℕ → Bool) (lits : List Lit) (i : ℕ) (d : Lit) → i < length lits
    → number_of w (take (i + 1) lits) ≡ number_of w (take i lits) + 2 ^ i * bit_number (lit_value w (get_or lits i d))
number_take w lits i d lt =
    let len : length (take i lits) ≡ i = length-take-le i lits (omega (arith, lt)) in
    ap (number_of w) (sym (take_next lits i d lt)) ∙ number_append w (take i lits) (get_or lits i d)
    ∙ ap (λ (n : ℕ). number_of w (take i lits) + 2 ^ n * bit_number (lit_value w (get_or lits i d))) len

-- and of one that was written at i
pub set_number : (w : ℕ → Bool) (lits : List Lit) (i : ℕ) (s : Lit) (t : Bool) → i < length lits → lit_value w s ≡ t
    → number_of w (take (i + 1) (set lits i s)) ≡ number_of w (take i lits) + 2 ^ i * bit_number t
set_number w lits i s t lt is =
    let len : length (take i lits) ≡ i = length-take-le i lits (omega (arith, lt)) in
    ap (number_of w) (take_more_set lits i s lt) ∙ number_append w (take i lits) s
    ∙ ap (λ (n : ℕ). number_of w (take i lits) + 2 ^ n * bit_number (lit_value w s)) len
    ∙ ap (λ (u : Bool). number_of w (take i lits) + 2 ^ i * bit_number u) is

-- one more literal is opposed
pub opposites_next : (word made : List Lit) (i : ℕ) (d lit : Lit) → i < length word → length made ≡ length word
    → take i made ≡ map opposite_of (take i word) → lit ≡ opposite_of (get_or word i d)
    → take (i + 1) (set made i lit) ≡ map opposite_of (take (i + 1) word)
opposites_next word made i d lit lt len so_far is =
    take_more_set made i lit (omega (arith, lt, len))
    ∙ ap (λ (lits : List Lit). lits ++ lit ∷ []) so_far
    ∙ ap (λ (l : Lit). map opposite_of (take i word) ++ l ∷ []) is
    ∙ sym (map-append opposite_of (take i word) (get_or word i d ∷ []))
    ∙ ap (map opposite_of) (take_next word i d lt)

pub opposites_whole : (word made : List Lit) (i : ℕ) → length word ≤ i → length made ≡ length word
    → take i made ≡ map opposite_of (take i word) → made ≡ map opposite_of word
opposites_whole word made i le len so_far =
    sym (take_all i made (omega (arith, le, len))) ∙ so_far ∙ ap (map opposite_of) (take_all i word le)
