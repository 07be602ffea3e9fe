-- Words that are made a literal at a time.
use Rattle.std.proofs.Common.{◌≡◌, ◌<◌, ◌≤◌, ◌+◌, ◌*◌, ◌^◌, ◌==◌, ℕ, Bool, true, false, not, ◌||◌, List, []}
use Rattle.std.proofs.Common.{◌∷◌, ◌++◌, length}
use Rattle.std.proofs.Common.{inl, inr, take, get_or, refl, sym, ap, ◌∙◌, arith, zero, suc, subst, if◌then◌else◌}
use Rattle.std.proofs.lemmas.List.{length-append, take_all, length-take-le}
use Rattle.std.proofs.lemmas.List.Elements.{All-from_recursion, recursion_from_All, All-weaker, All-push, All-get_or}
use Rattle.cn_clauses.specs.declared.lit.Lit.{Lit}
use Rattle.cn_clauses.specs.declared.formula.Formula.{Formula}
use Rattle.cn_clauses.specs.Literals.{variable_of, opposite_of, lit_value}
use Rattle.cn_clauses.specs.Formulas.{variables_of}
use Rattle.cn_clauses.specs.Extension.{Extends, IsGate, IsFresh}
use Rattle.std.specs.Int.Bits.{bit_xor, xor_self, xor_add_and}
use Rattle.std.proofs.lemmas.Nat.{and_le_l, and_le_r}
use Rattle.std.proofs.lemmas.Bool.{eqb-true, eq-eqb, cases_Bool}
use Rattle.cn_clauses.specs.Laws.{ExtendsThrough, OppositeValue, OppositeVariable}
use Rattle.bb_gates.specs.Values.{chosen, of_three, of_two, any_of}
use Rattle.bb_gates.specs.Growth.{AreOf, IsConservative}
use Rattle.bb_arith.specs.Words.{number_of}
use Rattle.jv_list.specs.Numbers.{bit_number}
use Rattle.bb_terms.specs.declared.bits.BitOp.{BitOp}
use Rattle.bb_terms.specs.declared.bits.BitOp.TheVariants.{Xor}
use Rattle.bb_terms.specs.Calls.Words.{IsWord, joined_bits, bits_number, chosen_number}
use Rattle.jv_list.proofs.NumberLemmas.{double_power}
use Rattle.bb_terms.proofs.NumberLemmas.{number_append, number_below, number_take, bits_next}

abbrev pub IsOf : Formula → Lit → Type 0
IsOf formula lit = variable_of lit < variables_of formula

pub word_grown : (old new : Formula) (lits : List Lit) → variables_of old ≤ variables_of new → AreOf old lits
    → AreOf new lits
word_grown old new lits le all =
    recursion_from_All (IsOf new) lits
    (All-weaker (IsOf old) (IsOf new) (λ lit lt. omega (arith, lt, le)) lits (All-from_recursion (IsOf old) lits all))

pub word_push : (f : Formula) (lits : List Lit) (lit : Lit) → AreOf f lits → IsOf f lit → AreOf f (lits ++ lit ∷ [])
word_push f lits lit all one =
    recursion_from_All (IsOf f) (lits ++ lit ∷ [])
    (All-push (IsOf f) lits lit (All-from_recursion (IsOf f) lits all) one)

-- a literal of a word
pub lit_within : (f : Formula) (lits : List Lit) (i : ℕ) (d : Lit) → AreOf f lits → i < length lits → IsOf f
    (get_or lits i d)
lit_within f lits i d all lt = All-get_or (IsOf f) lits i d lt (All-from_recursion (IsOf f) lits all)

-- in a formula that grew
pub lit_later : (old new : Formula) (lits : List Lit) (i : ℕ) (d : Lit) → variables_of old ≤ variables_of new
    → AreOf old lits → i < length lits → IsOf new (get_or lits i d)
lit_later old new lits i d le all lt = let one = lit_within old lits i d all lt in omega (arith, one, le)

-- a word with one literal more
pub word_next : ExtendsThrough → (old mid new : Formula) (i : ℕ) (lits : List Lit) (lit : Lit) (bit : (ℕ → Bool) → Bool)
    (value next : (ℕ → Bool) → ℕ) → ((w : ℕ → Bool) → value w + 2 ^ i * bit_number (bit w) ≡ next w)
    → IsWord i old mid lits value → IsGate mid new lit bit → IsWord (i + 1) old new (lits ++ lit ∷ []) next
word_next through old mid new i lits lit bit value next more so_far gate =
    let grows : variables_of mid ≤ variables_of new = gate.extends.continues.grows in
    record {
      gate = record {
        extends = through old mid new so_far.gate.extends gate.extends;
        within = word_push new lits lit (word_grown mid new lits grows so_far.gate.within) gate.shows.within;
        is = λ w h. number_append w lits lit
            ∙ ap (λ (n : ℕ). number_of w lits + 2 ^ n * bit_number (lit_value w lit)) so_far.wide
            ∙ ap (λ (x : Bool). number_of w lits + 2 ^ i * bit_number x) (gate.shows.is w h)
            ∙ ap (λ (n : ℕ). n + 2 ^ i * bit_number (bit w)) (so_far.gate.is w (gate.extends.keeps w h))
            ∙ more w;
      };
      wide = length-append lits (lit ∷ []) ∙ ap (λ (n : ℕ). n + 1) so_far.wide;
    }

-- a word whose value is told otherwise
pub word_same : (n m : ℕ) (old new : Formula) (lits : List Lit) (value other : (ℕ → Bool) → ℕ) → n ≡ m
    → ((w : ℕ → Bool) → value w ≡ other w) → IsWord n old new lits value → IsWord m old new lits other
word_same n m old new lits value other even same word = record {
  gate = record {
    extends = word.gate.extends;
    within = word.gate.within;
    is = λ w h. word.gate.is w h ∙ same w;
  };
  wide = word.wide ∙ even;
}

pub gate_same : (old new : Formula) (lit : Lit) (value other : (ℕ → Bool) → Bool)
    → ((w : ℕ → Bool) → value w ≡ other w) → IsGate old new lit value → IsGate old new lit other
gate_same old new lit value other same gate = record {
  extends = gate.extends;
  shows = record { within = gate.shows.within; is = λ w h. gate.shows.is w h ∙ same w };
}

-- no bit so far
pub word_none : (old new : Formula) (value : (ℕ → Bool) → ℕ) → Extends old new → ((w : ℕ → Bool) → 0 ≡ value w)
    → IsWord 0 old new [] value
word_none old new value grown same = record {
  gate = record { extends = grown; within = tt; is = λ w h. same w };
  wide = refl;
}

-- the first i bits of two words
module _ (a b : List Lit) (i : ℕ) (d : Lit) (in_a : i < length a) (in_b : i < length b) where
  below_power : (lits : List Lit) → i < length lits → (w : ℕ → Bool) → number_of w (take i lits) < 2 ^ i
  below_power lits lt w =
      subst (λ (n : ℕ). number_of w (take i lits) < 2 ^ n) (length-take-le i lits (omega (arith, lt)))
      (number_below w (take i lits))

  pub joined_more : (kind : BitOp) (w : ℕ → Bool)
      → bits_number kind (number_of w (take i a)) (number_of w (take i b)) + 2 ^ i * bit_number
      (of_two (joined_bits kind) (get_or a i d) (get_or b i d) w)
      ≡ bits_number kind (number_of w (take (i + 1) a)) (number_of w (take (i + 1) b))
  joined_more kind w =
      bits_next kind i (number_of w (take i a)) (number_of w (take i b)) (lit_value w (get_or a i d))
      (lit_value w (get_or b i d)) (below_power a in_a w) (below_power b in_b w)
      ∙ ap (λ (n : ℕ). bits_number kind n (number_of w (take i b) + 2 ^ i * bit_number (lit_value w (get_or b i d))))
      (sym (number_take w a i d in_a))
      ∙ ap (bits_number kind (number_of w (take (i + 1) a))) (sym (number_take w b i d in_b))

  choose_more : (c : Bool) (x y p x' y' : ℕ) (s t : Bool) → x' ≡ x + p * bit_number s → y' ≡ y + p * bit_number t
      → (if c then x else y) + p * bit_number (chosen c s t) ≡ (if c then x' else y')
  choose_more true x y p x' y' s t first second = sym first
  choose_more false x y p x' y' s t first second = sym second

  pub choice_more : (choice : Lit) (w : ℕ → Bool)
      → chosen_number choice (take i a) (take i b) w + 2 ^ i * bit_number
      (of_three chosen choice (get_or a i d) (get_or b i d) w)
      ≡ chosen_number choice (take (i + 1) a) (take (i + 1) b) w
  choice_more choice w =
      choose_more (lit_value w choice) (number_of w (take i a)) (number_of w (take i b)) (2 ^ i)
      (number_of w (take (i + 1) a)) (number_of w (take (i + 1) b)) (lit_value w (get_or a i d))
      (lit_value w (get_or b i d)) (number_take w a i d in_a) (number_take w b i d in_b)

pub two_of : (f : Formula) (x y : Lit) → IsOf f x → IsOf f y → AreOf f (x ∷ y ∷ [])
two_of f x y hx hy = (hx, (hy, tt))

pub three_of : (f : Formula) (x y z : Lit) → IsOf f x → IsOf f y → IsOf f z → AreOf f (x ∷ y ∷ z ∷ [])
three_of f x y z hx hy hz = (hx, (hy, (hz, tt)))

not_zero : (m : ℕ) → 0 < m → (m == 0) ≡ false
not_zero m lt =
    elim (cases_Bool (m == 0)) [
      | inl is ↦ let none = eqb-true m 0 is in absurd (omega (arith, lt, none))
      | inr is ↦ is
    ]

or_true : (x rest : Bool) (n : ℕ) → (rest ≡ (if n == 0 then false else true))
    → (x || rest) ≡ (if bit_number x + 2 * n == 0 then false else true)
or_true true rest n is =
    sym (ap (λ (t : Bool). if t then false else true) (not_zero (1 + 2 * n) (omega arith)))
or_true false rest zero is = is
or_true false rest (suc n) is =
    is ∙ ap (λ (t : Bool). if t then false else true) (not_zero (suc n) (omega arith))
    ∙ sym (ap (λ (t : Bool). if t then false else true) (not_zero (0 + 2 * suc n) (omega arith)))

-- some literal is true exactly where the number is not 0
pub some_bit : (w : ℕ → Bool) (lits : List Lit) → any_of lits w ≡ (if number_of w lits == 0 then false else true)
some_bit w [] = refl
some_bit w (lit ∷ lits) = or_true (lit_value w lit) (any_of lits w) (number_of w lits) (some_bit w lits)

-- all bits of two words
pub joined_whole : (kind : BitOp) (a b : List Lit) (i : ℕ) (old new : Formula) (lits : List Lit) → length b ≡ length a
    → length a ≤ i → i ≤ length a
    → IsWord i old new lits (λ w. bits_number kind (number_of w (take i a)) (number_of w (take i b)))
    → IsWord (length a) old new lits (λ w. bits_number kind (number_of w a) (number_of w b))
joined_whole kind a b i old new lits even past within word =
    let le_a = past in
    let le_b : length b ≤ i = omega (arith, le_a, even) in
    let all : i ≡ length a = omega (arith, le_a, within) in
    word_same i (length a) old new lits _ _ all
    (λ w. ap (λ (l : List Lit). bits_number kind (number_of w l) (number_of w (take i b))) (take_all i a le_a)
    ∙ ap (λ (l : List Lit). bits_number kind (number_of w a) (number_of w l)) (take_all i b le_b)) word

-- two numbers are the same where no bit of one alone is set
equal_by_bits : (x y k : ℕ) → bit_xor x y ≡ k → not (if k == 0 then false else true) ≡ (x == y)
equal_by_bits x y zero is =
    let sum = xor_add_and x y in
    let l = and_le_l x y in
    let r = and_le_r x y in
    let same : x ≡ y = omega (arith, is, sum, l, r) in
    sym (eq-eqb x y same)
equal_by_bits x y (suc k) is =
    let some : not (if suc k == 0 then false else true) ≡ false =
    ap (λ (t : Bool). not (if t then false else true)) (not_zero (suc k) (omega arith)) in
    elim (cases_Bool (x == y)) [
      | inl same ↦
          let e = eqb-true x y same in
          let none : bit_xor x y ≡ 0 = ap (λ (z : ℕ). bit_xor x z) (sym e) ∙ xor_self x in
          absurd (omega (arith, none, is))
      | inr other ↦ some ∙ sym other
    ]

pub equal_gate : ExtendsThrough → OppositeValue → OppositeVariable → (old mid new : Formula)
    (a b differences : List Lit) (some answer : Lit) → answer ≡ opposite_of some
    → IsWord (length a) old mid differences (λ w. bits_number Xor (number_of w a) (number_of w b))
    → IsGate mid new some (any_of differences) → IsGate old new answer (λ w. number_of w a == number_of w b)
equal_gate through value variable old mid new a b differences some answer is word gate =
    subst (λ (lit : Lit). IsGate old new lit (λ w. number_of w a == number_of w b)) (sym is)
    record {
      extends = through old mid new word.gate.extends gate.extends;
      shows = record {
        within = subst (λ (v : ℕ). v < variables_of new) (sym (variable some)) gate.shows.within;
        is = λ w h. value w some ∙ ap not (gate.shows.is w h ∙ some_bit w differences)
            ∙ equal_by_bits (number_of w a) (number_of w b) (number_of w differences)
            (sym (word.gate.is w (gate.extends.keeps w h)));
      };
    }

longer_length : (made : List Lit) (fill : Lit) → length (made ++ fill ∷ []) ≡ suc (length made)
longer_length made fill = let one = length-append made (fill ∷ []) in omega (arith, one)

next_longer : (n b p q : ℕ) (x : Bool) (m : ℕ) → n + bit_number x * p ≡ m + bit_number x * q
    → (n + q * bit_number x) + bit_number x * p ≡ m + bit_number x * (2 * q)
next_longer n b p q true m is = omega (arith, is)
next_longer n b p q false m is = omega (arith, is)

-- the literal in one more place
pub longer_value : (w : ℕ → Bool) (lits made : List Lit) (fill : Lit)
    → number_of w made + bit_number (lit_value w fill) * 2 ^ length lits
    ≡ number_of w lits + bit_number (lit_value w fill) * 2 ^ length made
    → number_of w (made ++ fill ∷ []) + bit_number (lit_value w fill) * 2 ^ length lits
    ≡ number_of w lits + bit_number (lit_value w fill) * 2 ^ length (made ++ fill ∷ [])
longer_value w lits made fill is =
    ap (λ (n : ℕ). n + bit_number (lit_value w fill) * 2 ^ length lits) (number_append w made fill)
    ∙ next_longer (number_of w made) 0 (2 ^ length lits) (2 ^ length made) (lit_value w fill) (number_of w lits) is
    ∙ ap (λ (q : ℕ). number_of w lits + bit_number (lit_value w fill) * q)
    (double_power (length made) ∙ ap (λ (n : ℕ). 2 ^ n) (sym (longer_length made fill)))

pub fresh_conservative : (old new : Formula) (lit : Lit) → IsFresh old new lit → IsConservative old new
fresh_conservative old new lit fresh = record {
  continues = fresh.continues;
  extends = λ a h. let b = fresh.extends a h true in (b.0, b.1);
}
