-- Words of terms, from the words of their operands.
use Rattle.std.proofs.Common.{◌≡◌, ◌<◌, ◌≤◌, ◌+◌, ◌-◌, ◌*◌, ◌^◌, ◌%◌, ◌==◌, ℕ, pos, negsuc, zero, suc, Bool, true}
use Rattle.std.proofs.Common.{false, not, List, [], ◌∷◌}
use Rattle.std.proofs.Common.{length, take, get_or, nat_lt, Option, refl, sym, ap, ◌∙◌, subst, arith, inl, inr}
use Rattle.std.proofs.Common.{if◌then◌else◌}
use Rattle.std.proofs.Common.{min, max}
use Rattle.std.specs.Prelude.{bit_and, bit_or}
use Rattle.std.proofs.Math.Nat.{mod-eq_of_lt}
use Rattle.std.proofs.Math.Pow.{pow_mono}
use Rattle.std.proofs.lemmas.Bool.{lt-ltb, ltb-true, cases_Bool}
use Rattle.std.proofs.lemmas.List.{length-take-le, take_all}
use Rattle.cn_clauses.specs.declared.lit.Lit.{Lit}
use Rattle.cn_clauses.specs.declared.formula.Formula.{Formula}
use Rattle.cn_clauses.specs.Literals.{opposite_of, lit_value}
use Rattle.cn_clauses.specs.Formulas.{variables_of}
use Rattle.cn_clauses.specs.Laws.{OppositeValue, OppositeVariable, ExtendsItself}
use Rattle.bb_gates.specs.Growth.{AreOf}
use Rattle.bb_arith.specs.Words.{number_of}
use Rattle.jv_list.specs.Numbers.{bit_number}
use Rattle.bb_terms.specs.Calls.Words.{IsWord, IsLonger, chosen_number}
use Rattle.bb_terms.specs.Calls.Terms.{IsTermWord}
use Rattle.bb_terms.specs.Tables.{HasWord, IsTable}
use Rattle.tm_terms.specs.declared.op.Op.{Op}
use Rattle.tm_terms.specs.Words.{width_of}
use Rattle.jv_list.specs.Numbers.{signed_number, wrapped_number}
use Rattle.tm_terms.specs.declared.sort.Sort.{Sort}
use Rattle.tm_terms.specs.declared.sort.Sort.TheVariants.{Bool as Truth, W16, W32, W64}
use Rattle.tm_terms.specs.Terms.{term_sort, term_value}
use Rattle.tm_terms.specs.Laws.{ValueBelow}
use Rattle.jv_list.proofs.NumberLemmas.{double_power}
use Rattle.bb_terms.proofs.NumberLemmas.{reduced, number_low, number_take, number_below, below_width}
use Rattle.bb_terms.proofs.NumberLemmas.{bit_rest}
use Rattle.bb_terms.proofs.WordLemmas.{lit_within}

false_order : (m n : ℕ) → (m < n → ⊥) → nat_lt m n ≡ false
false_order m n never = elim (cases_Bool (nat_lt m n)) [ inl is ↦ absurd (never (ltb-true m n is)) | inr is ↦ is ]

module _ (ops : List Op) (words : List (Option (List Lit))) (old new : Formula) (table : IsTable old ops words) where
  -- a word for a number of two words
  pub of_two_words : (n : ℕ) (f : ℕ → ℕ → ℕ) (i j : ℕ) (a b lits : List Lit) → HasWord words i a → HasWord words j b
      → IsWord n old new lits (λ w. f (number_of w a) (number_of w b))
      → IsTermWord ops words n old new lits (λ v. f (term_value ops v i) (term_value ops v j))
  of_two_words n f i j a b lits first second word = record {
    extends = word.gate.extends;
    within = word.gate.within;
    wide = word.wide;
    is = λ w v h shows.
        let before = word.gate.extends.keeps w h in
        word.gate.is w h
        ∙ ap (λ (x : ℕ). f x (number_of w b)) (table.values i a w v first before shows)
        ∙ ap (f (term_value ops v i)) (table.values j b w v second before shows);
  }

flipped : (x : Bool) (n : ℕ) → bit_number x + 2 * 0 ≡ n → bit_number (not x) + 2 * 0 ≡ 1 - n
flipped true n is = omega (arith, is)
flipped false n is = omega (arith, is)

-- the opposite of a truth value
pub opposite_word : OppositeValue → OppositeVariable → ExtendsItself → (ops : List Op)
    (words : List (Option (List Lit)))
    (f : Formula) (k : ℕ) (lit answer : Lit) (lits : List Lit) → IsTable f ops words → HasWord words k (lit ∷ [])
    → answer ≡ opposite_of lit → lits ≡ answer ∷ []
    → IsTermWord ops words 1 f f lits (λ v. 1 - term_value ops v k)
opposite_word value variable itself ops words f k lit answer lits table has is made =
    subst (λ (l : List Lit). IsTermWord ops words 1 f f l (λ v. 1 - term_value ops v k))
    (sym (made ∙ ap (λ (l : Lit). l ∷ []) is))
    record {
      extends = itself f;
      within = (subst (λ (n : ℕ). n < variables_of f) (sym (variable lit)) (table.within k (lit ∷ []) has).0, tt);
      wide = refl;
      is = λ w v h shows.
          ap (λ (x : Bool). bit_number x + 2 * 0) (value w lit)
          ∙ flipped (lit_value w lit) (term_value ops v k) (table.values k (lit ∷ []) w v has h shows);
    }

chosen_value : (x : Bool) (n na nb ta tb : ℕ) → bit_number x + 2 * 0 ≡ n → na ≡ ta → nb ≡ tb
    → (if x then na else nb) ≡ (if n == 0 then tb else ta)
chosen_value true n na nb ta tb is first second =
    subst (λ (m : ℕ). na ≡ (if m == 0 then tb else ta)) is first
chosen_value false n na nb ta tb is first second =
    subst (λ (m : ℕ). nb ≡ (if m == 0 then tb else ta)) is second

-- a choice between two words
pub choice_word : (ops : List Op) (words : List (Option (List Lit))) (old new : Formula) (n k i j : ℕ) (lit : Lit)
    (a b lits : List Lit) → IsTable old ops words → HasWord words k (lit ∷ []) → HasWord words i a → HasWord words j b
    → length a ≡ n → IsWord (length a) old new lits (chosen_number lit a b)
    → IsTermWord ops words n old new lits
    (λ v. if term_value ops v k == 0 then term_value ops v j else term_value ops v i)
choice_word ops words old new n k i j lit a b lits table has first second wide word = record {
  extends = word.gate.extends;
  within = word.gate.within;
  wide = word.wide ∙ wide;
  is = λ w v h shows.
      let before = word.gate.extends.keeps w h in
      word.gate.is w h
      ∙ chosen_value (lit_value w lit) (term_value ops v k) (number_of w a) (number_of w b) (term_value ops v i)
      (term_value ops v j) (table.values k (lit ∷ []) w v has before shows)
      (table.values i a w v first before shows) (table.values j b w v second before shows);
}

take_within : (f : Formula) (n : ℕ) (lits : List Lit) → AreOf f lits → AreOf f (take n lits)
take_within f zero lits all = tt
take_within f (suc n) [] all = tt
take_within f (suc n) (lit ∷ lits) all = (all.0, take_within f n lits all.1)

-- the lowest bits of a word
pub cut_word : ExtendsItself → (ops : List Op) (words : List (Option (List Lit))) (f : Formula) (n k : ℕ)
    (a lits : List Lit) → IsTable f ops words → HasWord words k a → n ≤ length a → lits ≡ take n a
    → IsTermWord ops words n f f lits (λ v. term_value ops v k % 2 ^ n)
cut_word itself ops words f n k a lits table has within is =
    let wide = length-take-le n a within in
    subst (λ (l : List Lit). IsTermWord ops words n f f l (λ v. term_value ops v k % 2 ^ n)) (sym is)
    record {
      extends = itself f;
      within = take_within f n a (table.within k a has);
      wide = wide;
      is = λ w v h shows. number_low w n a wide ∙ ap (λ (x : ℕ). x % 2 ^ n) (table.values k a w v has h shows);
    }

-- the number of a word with its sign in each further place
widened_number : (n m x made y p : ℕ) (b : Bool) → x ≡ y + p * bit_number b → y < p → 2 * p ≡ 2 ^ n → 2 ^ n ≤ 2 ^ m
    → made + bit_number b * 2 ^ n ≡ x + bit_number b * 2 ^ m → made < 2 ^ m
    → made ≡ wrapped_number m (signed_number n x)
widened_number n m x made y p false parts lt twice le is fits =
    let small : 2 * x < 2 ^ n = omega (arith, parts, lt, twice) in
    let same : made ≡ x = omega (arith, is) in
    same ∙ sym (ap (λ (t : Bool). wrapped_number m (if t then pos x else negsuc (2 ^ n - suc x)))
    (lt-ltb (2 * x) (2 ^ n) small) ∙ mod-eq_of_lt (omega (arith, same, fits)))
widened_number n m x made y p true parts lt twice le is fits =
    let large : 2 * x < 2 ^ n → ⊥ = λ h. omega (arith, h, parts, lt, twice) in
    let j = 2 ^ n - suc x in
    let below : j < 2 ^ m = omega (arith, lt, twice, le) in
    let answer : 2 ^ m - suc j ≡ made = omega (arith, parts, lt, twice, le, is, fits) in
    sym (ap (λ (t : Bool). wrapped_number m (if t then pos x else negsuc j)) (false_order (2 * x) (2 ^ n) large)
    ∙ ap (λ (k : ℕ). 2 ^ m - suc k) (mod-eq_of_lt below) ∙ answer)

-- a word with its sign in each further place
pub widened_word : ExtendsItself → (ops : List Op) (words : List (Option (List Lit))) (f : Formula) (i m k : ℕ)
    (a made : List Lit) (d : Lit) → IsTable f ops words → HasWord words k a → length a ≡ suc i → length a ≤ m
    → IsLonger a (get_or a i d) m made
    → IsTermWord ops words m f f made (λ v. wrapped_number m (signed_number (length a) (term_value ops v k)))
widened_word itself ops words f i m k a made d table has wide le longer =
    let lt : i < length a = omega (arith, wide) in
    let all : length a ≤ i + 1 = omega (arith, wide) in
    record {
      extends = itself f;
      within = longer.within f (table.within k a has) (lit_within f a i d (table.within k a has) lt, tt);
      wide = longer.wide;
      is = λ w v h shows.
          let whole = ap (number_of w) (sym (take_all (i + 1) a all)) ∙ number_take w a i d lt in
          let low = subst (λ (n : ℕ). number_of w (take i a) < 2 ^ n) (length-take-le i a (omega (arith, lt)))
          (number_below w (take i a)) in
          widened_number (length a) m (number_of w a) (number_of w made) (number_of w (take i a)) (2 ^ i)
          (lit_value w (get_or a i d)) whole low (double_power i ∙ ap (λ (n : ℕ). 2 ^ n) (sym wide))
          (pow_mono le) (longer.value w) (below_width w made m longer.wide)
          ∙ ap (λ (x : ℕ). wrapped_number m (signed_number (length a) x)) (table.values k a w v has h shows);
    }

-- a value that a word shows is its own remainder
pub word_reduced : (ops : List Op) (words : List (Option (List Lit))) (n : ℕ) (old new : Formula) (lits : List Lit)
    (number : List ℕ → ℕ) → IsTermWord ops words n old new lits number
    → IsTermWord ops words n old new lits (λ v. number v % 2 ^ n)
word_reduced ops words n old new lits number word = record {
  extends = word.extends;
  within = word.within;
  wide = word.wide;
  is = λ w v h shows. reduced w lits n (number v) word.wide (word.is w v h shows);
}

-- a number that is told otherwise
pub word_told : (ops : List Op) (words : List (Option (List Lit))) (n : ℕ) (old new : Formula) (lits : List Lit)
    (number other : List ℕ → ℕ) → ((v : List ℕ) → number v ≡ other v)
    → IsTermWord ops words n old new lits number → IsTermWord ops words n old new lits other
word_told ops words n old new lits number other same word = record {
  extends = word.extends;
  within = word.within;
  wide = word.wide;
  is = λ w v h shows. word.is w v h shows ∙ same v;
}

pub width_positive : (s : Sort) → 0 < width_of s
width_positive Truth = omega arith
width_positive W16 = omega arith
width_positive W32 = omega arith
width_positive W64 = omega arith

max_bits : (s t : Bool) → bit_or (bit_number s) (bit_number t) ≡ max (bit_number s) (bit_number t)
max_bits true true = refl
max_bits true false = refl
max_bits false true = refl
max_bits false false = refl

min_bits : (s t : Bool) → bit_and (bit_number s) (bit_number t) ≡ min (bit_number s) (bit_number t)
min_bits true true = refl
min_bits true false = refl
min_bits false true = refl
min_bits false false = refl

-- on two bits, a function of numbers is known by its values at 0 and 1
on_bits : (f g : ℕ → ℕ → ℕ) → ((s t : Bool) → f (bit_number s) (bit_number t) ≡ g (bit_number s) (bit_number t))
    → (x y : ℕ) → x < 2 → y < 2 → f x y ≡ g x y
on_bits f g same x y x_lt y_lt =
    subst (λ (m : ℕ). f m y ≡ g m y) (bit_rest x x_lt)
    (subst (λ (n : ℕ). f (bit_number (x == 1)) n ≡ g (bit_number (x == 1)) n) (bit_rest y y_lt)
    (same (x == 1) (y == 1)))

module _ (below : ValueBelow) (ops : List Op) (words : List (Option (List Lit))) (old new : Formula) (i j : ℕ)
    (lits : List Lit) (first : term_sort ops i ≡ Truth) (second : term_sort ops j ≡ Truth) where
  truth_below : (k : ℕ) → term_sort ops k ≡ Truth → (v : List ℕ) → term_value ops v k < 2
  truth_below k sort v = subst (λ (s : Sort). term_value ops v k < 2 ^ width_of s) sort (below ops v k)

  of_truths : (f g : ℕ → ℕ → ℕ) → ((s t : Bool) → f (bit_number s) (bit_number t) ≡ g (bit_number s) (bit_number t))
      → IsTermWord ops words (width_of (term_sort ops i)) old new lits
      (λ v. f (term_value ops v i) (term_value ops v j))
      → IsTermWord ops words 1 old new lits (λ v. g (term_value ops v i) (term_value ops v j) % 2 ^ 1)
  of_truths f g same word =
      word_reduced ops words 1 old new lits (λ v. g (term_value ops v i) (term_value ops v j))
      (word_told ops words 1 old new lits (λ v. f (term_value ops v i) (term_value ops v j))
      (λ v. g (term_value ops v i) (term_value ops v j))
      (λ v. on_bits f g same (term_value ops v i) (term_value ops v j) (truth_below i first v) (truth_below j second v))
      (subst (λ (s : Sort). IsTermWord ops words (width_of s) old new lits
      (λ v. f (term_value ops v i) (term_value ops v j))) first word))

  pub and_word : IsTermWord ops words (width_of (term_sort ops i)) old new lits
      (λ v. bit_and (term_value ops v i) (term_value ops v j))
      → IsTermWord ops words 1 old new lits (λ v. min (term_value ops v i) (term_value ops v j) % 2 ^ 1)
  and_word word = of_truths bit_and min min_bits word

  pub or_word : IsTermWord ops words (width_of (term_sort ops i)) old new lits
      (λ v. bit_or (term_value ops v i) (term_value ops v j))
      → IsTermWord ops words 1 old new lits (λ v. max (term_value ops v i) (term_value ops v j) % 2 ^ 1)
  or_word word = of_truths bit_or max max_bits word
