-- Long division of words, a bit more at a time.
use Rattle.std.proofs.Common.{◌≡◌, ◌<◌, ◌≤◌, ◌+◌, ◌-◌, ◌*◌, ◌/◌, ◌%◌, ◌^◌, ℕ, Bool, true, false, not, List, []}
use Rattle.std.proofs.Common.{length, drop, get_or, set, nat_lt, zero, suc, sym, ap, ◌∙◌, subst, arith, inl, inr}
use Rattle.std.proofs.Common.{if◌then◌else◌}
use Rattle.std.proofs.Math.ListN.{replicate, drop_of_length-le}
use Rattle.std.proofs.Math.Nat.{mod-zero, zero-mod, zero-div, mod-eq_of_lt, add-mod_right, pow-le-pow_right}
use Rattle.std.proofs.Math.Seq.{drop-cons}
use Rattle.std.proofs.lemmas.Bool.{cases_Bool, ltb-true, ltb-false}
use Rattle.std.proofs.lemmas.List.{drop-set, length-drop, length-replicate}
use Rattle.std.proofs.lemmas.Nat.{div-add-mod', div-mul-add, mod-mul-add, mod_below}
use Rattle.cn_clauses.specs.declared.lit.Lit.{Lit}
use Rattle.cn_clauses.specs.declared.formula.Formula.{Formula}
use Rattle.cn_clauses.specs.Literals.{opposite_of, lit_value}
use Rattle.cn_clauses.specs.Satisfaction.{Satisfies}
use Rattle.cn_clauses.specs.Formulas.{variables_of, clauses_of}
use Rattle.cn_clauses.specs.Extension.{Shows, IsGate}
use Rattle.cn_clauses.specs.Laws.{ExtendsThrough, ShowsLater, ShowsOpposite}
use Rattle.bb_gates.specs.Laws.{ConservativeThrough}
use Rattle.bb_gates.specs.Growth.{IsConservative, Adds}
use Rattle.bb_arith.specs.Words.{number_of, IsWordGate}
use Rattle.jv_list.specs.Numbers.{bit_number}
use Rattle.bb_arith.specs.Calls.Division.{IsReduced, IsDivided, IsDivision}
use Rattle.bb_arith.proofs.NumberLemmas.{number_below}
use Rattle.bb_arith.proofs.WordLemmas.{word_grown, word_set}
use Rattle.bb_arith.proofs.ChoiceLemmas.{word_after}
use Rattle.bb_arith.proofs.PlaceLemmas.{number_zeros, repeated_within}

bit_small : (b : Bool) → bit_number b < 2
bit_small true = omega arith
bit_small false = omega arith

-- a number with one bit more, by the quotient and the rest of what it was
one_more : (hi d b : ℕ) → b + 2 * hi ≡ (2 * (hi / d)) * d + (b + 2 * (hi % d))
one_more hi d b = let e = div-add-mod' hi d in omega (arith, e)

rest_doubled : (hi d : ℕ) (b : Bool) → 0 < d → bit_number b + 2 * (hi % d) < 2 * d
rest_doubled hi d b some =
    let below = mod_below hi d some in let small = bit_small b in omega (arith, below, small)

-- the rest with one bit more is a number of as many bits
rest_small : (hi d p : ℕ) (b : Bool) → 2 * d ≤ p → bit_number b + 2 * hi < p → bit_number b + 2 * (hi % d) < p
rest_small hi zero p b le lt = let e = mod-zero hi in omega (arith, e, lt)
rest_small hi (suc d) p b le lt = let less = rest_doubled hi (suc d) b (omega arith) in omega (arith, less, le)

taken : (x d p : ℕ) → d ≤ x → x < p → (x + (p - d)) % p ≡ x - d
taken x d p le lt =
    ap (λ (m : ℕ). m % p) (let e : x + (p - d) ≡ x - d + p = omega (arith, le, lt) in e)
    ∙ add-mod_right (x - d) p ∙ mod-eq_of_lt (omega (arith, lt))

mod_taken : (hi d b : ℕ) → 0 < d → d ≤ b + 2 * (hi % d) → b + 2 * (hi % d) < 2 * d
    → (b + 2 * hi) % d ≡ b + 2 * (hi % d) - d
mod_taken hi d b some le lt =
    ap (λ (m : ℕ). m % d) (one_more hi d b ∙ (let x = b + 2 * (hi % d) in
    let e : (2 * (hi / d)) * d + x ≡ (2 * (hi / d) + 1) * d + (x - d) = omega (arith, le) in e))
    ∙ mod-mul-add (2 * (hi / d) + 1) d (b + 2 * (hi % d) - d) (omega (arith, lt, some))

div_taken : (hi d b : ℕ) → 0 < d → d ≤ b + 2 * (hi % d) → b + 2 * (hi % d) < 2 * d
    → (b + 2 * hi) / d ≡ 2 * (hi / d) + 1
div_taken hi d b some le lt =
    ap (λ (m : ℕ). m / d) (one_more hi d b ∙ (let x = b + 2 * (hi % d) in
    let e : (2 * (hi / d)) * d + x ≡ (2 * (hi / d) + 1) * d + (x - d) = omega (arith, le) in e))
    ∙ div-mul-add (2 * (hi / d) + 1) d (b + 2 * (hi % d) - d) (omega (arith, lt, some))

rest_taken : (hi d p b : ℕ) → d ≤ b + 2 * (hi % d) → b + 2 * (hi % d) < p → (0 < d → b + 2 * (hi % d) < 2 * d)
    → (b + 2 * (hi % d) + (p - d)) % p ≡ (b + 2 * hi) % d
rest_taken hi zero p b le lt less =
    taken (b + 2 * (hi % 0)) 0 p le lt
    ∙ (let e = mod-zero hi in let f : b + 2 * (hi % 0) - 0 ≡ b + 2 * hi = omega (arith, e) in f)
    ∙ sym (mod-zero (b + 2 * hi))
rest_taken hi (suc d) p b le lt less =
    taken (b + 2 * (hi % suc d)) (suc d) p le lt
    ∙ sym (mod_taken hi (suc d) b (omega arith) le (less (omega arith)))

-- the next rest, and the next digit of the quotient
step_rest : (hi d p : ℕ) (b : Bool) → bit_number b + 2 * (hi % d) < p
    → (if nat_lt (bit_number b + 2 * (hi % d)) d then bit_number b + 2 * (hi % d)
    else (bit_number b + 2 * (hi % d) + (p - d)) % p) ≡ (bit_number b + 2 * hi) % d
step_rest hi d p b lt =
    let x = bit_number b + 2 * (hi % d) in
    elim (cases_Bool (nat_lt x d)) [
      | inl is ↦
          ap (λ (t : Bool). if t then x else (x + (p - d)) % p) is
          ∙ sym (ap (λ (m : ℕ). m % d) (one_more hi d (bit_number b))
          ∙ mod-mul-add (2 * (hi / d)) d x (ltb-true x d is))
      | inr fails ↦
          ap (λ (t : Bool). if t then x else (x + (p - d)) % p) fails
          ∙ rest_taken hi d p (bit_number b) (ltb-false x d fails) lt (rest_doubled hi d b)
    ]

step_digit : (hi d : ℕ) (b : Bool) → 0 < d
    → bit_number (not (nat_lt (bit_number b + 2 * (hi % d)) d)) + 2 * (hi / d) ≡ (bit_number b + 2 * hi) / d
step_digit hi d b some =
    let x = bit_number b + 2 * (hi % d) in
    elim (cases_Bool (nat_lt x d)) [
      | inl is ↦
          ap (λ (t : Bool). bit_number (not t) + 2 * (hi / d)) is
          ∙ (let e : 0 + 2 * (hi / d) ≡ 2 * (hi / d) = omega arith in e)
          ∙ sym (ap (λ (m : ℕ). m / d) (one_more hi d (bit_number b))
          ∙ div-mul-add (2 * (hi / d)) d x (ltb-true x d is))
      | inr fails ↦
          ap (λ (t : Bool). bit_number (not t) + 2 * (hi / d)) fails
          ∙ (let e : 1 + 2 * (hi / d) ≡ 2 * (hi / d) + 1 = omega arith in e)
          ∙ sym (div_taken hi d (bit_number b) some (ltb-false x d fails) (rest_doubled hi d b some))
    ]

-- the bits from i on
upper_bits : (w : ℕ → Bool) (word : List Lit) (i : ℕ) (d : Lit) → i < length word
    → number_of w (drop i word) ≡ bit_number (lit_value w (get_or word i d)) + 2 * number_of w (drop (i + 1) word)
upper_bits w word i d lt =
    ap (number_of w) (drop-cons word i d lt)
    ∙ ap (λ (n : ℕ). bit_number (lit_value w (get_or word i d)) + 2 * number_of w (drop n word))
    (let e : suc i ≡ i + 1 = omega arith in e)

upper_below : (w : ℕ → Bool) (word : List Lit) (i n : ℕ) → length word ≡ n → number_of w (drop i word) < 2 ^ n
upper_below w word i n len =
    let below = number_below w (drop i word) in
    let rest : length (drop i word) ≡ length word - i = length-drop i word in
    let more = pow-le-pow_right {n = 2} (omega arith) {i = length (drop i word)} {j = n} (omega (arith, rest, len)) in
    omega (arith, below, more)

doubled : (r b p : ℕ) → b + 2 * r < p → (r * 2) % p + b * 1 ≡ b + 2 * r
doubled r b p lt =
    ap (λ (m : ℕ). m + b * 1) (mod-eq_of_lt (omega (arith, lt)))
    ∙ (let e : r * 2 + b * 1 ≡ b + 2 * r = omega arith in e)

-- before the first bit
pub division_start : (n : ℕ) (old new : Formula) (word divisor : List Lit) (zero_lit : Lit) → length word ≡ n
    → IsGate old new zero_lit (λ w. false)
    → IsDivided n n old new word divisor (replicate n zero_lit) (replicate n zero_lit)
division_start n old new word divisor zero_lit len gate =
    let none : drop n word ≡ [] = drop_of_length-le word (omega (arith, len)) in
    let no_digit : drop n (replicate n zero_lit) ≡ [] =
    drop_of_length-le (replicate n zero_lit) (let same = length-replicate n zero_lit in omega (arith, same)) in
    record {
      extends = gate.extends;
      quotient_within = repeated_within new n zero_lit gate.shows.within;
      rest_within = repeated_within new n zero_lit gate.shows.within;
      rest_is = λ w h half. number_zeros w n zero_lit (gate.shows.is w h)
          ∙ sym (ap (λ (lits : List Lit). number_of w lits % number_of w divisor) none
          ∙ zero-mod (number_of w divisor));
      quotient_is = λ w h half some. ap (number_of w) no_digit
          ∙ sym (ap (λ (lits : List Lit). number_of w lits / number_of w divisor) none
          ∙ zero-div (number_of w divisor));
    }

-- the next bit
module _ (through : ExtendsThrough) (n i : ℕ) (old mid new : Formula) (word divisor : List Lit) (d : Lit)
    (quotient rest longer next : List Lit) (digit : Lit) (len : length word ≡ n) (in_word : i < length word)
    (in_quotient : i < length quotient) where
  pub division_more : IsDivided (i + 1) n old mid word divisor quotient rest
      → ((w : ℕ → Bool) → number_of w longer
      ≡ (number_of w rest * 2) % 2 ^ n + bit_number (lit_value w (get_or word i d)) * 1)
      → IsReduced n mid new longer divisor next digit
      → IsDivided i n old new word divisor (set quotient i digit) next
  division_more so_far moves made =
      let grows : variables_of mid ≤ variables_of new = made.gate.extends.continues.grows in
      let longer_is = λ (w : ℕ → Bool) (k : Satisfies w (clauses_of mid)) (half : 2 * number_of w divisor ≤ 2 ^ n).
      let bit = lit_value w (get_or word i d) in
      let hi = number_of w (drop (i + 1) word) in
      let whole = upper_below w word i n len in
      let bits = upper_bits w word i d in_word in
      moves w ∙ ap (λ (m : ℕ). (m * 2) % 2 ^ n + bit_number bit * 1) (so_far.rest_is w k half)
      ∙ doubled (hi % number_of w divisor) (bit_number bit) (2 ^ n)
      (rest_small hi (number_of w divisor) (2 ^ n) bit half (omega (arith, whole, bits))) in
      record {
        extends = through old mid new so_far.extends made.gate.extends;
        quotient_within = word_set new quotient i digit (word_grown mid new quotient grows so_far.quotient_within)
            made.shows.within;
        rest_within = made.gate.within;
        rest_is = λ w h half.
            let k = made.gate.extends.keeps w h in
            let e = number_of w divisor in
            let bit = lit_value w (get_or word i d) in
            let hi = number_of w (drop (i + 1) word) in
            let whole = upper_below w word i n len in
            let bits = upper_bits w word i d in_word in
            made.gate.is w h
            ∙ ap (λ (m : ℕ). if nat_lt m e then m else (m + (2 ^ n - e)) % 2 ^ n) (longer_is w k half)
            ∙ step_rest hi e (2 ^ n) bit (rest_small hi e (2 ^ n) bit half (omega (arith, whole, bits)))
            ∙ ap (λ (m : ℕ). m % e) (sym bits);
        quotient_is = λ w h half some.
            let k = made.gate.extends.keeps w h in
            let e = number_of w divisor in
            let bit = lit_value w (get_or word i d) in
            let hi = number_of w (drop (i + 1) word) in
            ap (number_of w) (drop-set quotient i digit in_quotient)
            ∙ ap (λ (t : Bool). bit_number t + 2 * number_of w (drop (i + 1) quotient)) (made.shows.is w h)
            ∙ ap (λ (m : ℕ). bit_number (not (nat_lt m e)) + 2 * number_of w (drop (i + 1) quotient))
            (longer_is w k half)
            ∙ ap (λ (m : ℕ). bit_number (not (nat_lt (bit_number bit + 2 * (hi % e)) e)) + 2 * m)
            (so_far.quotient_is w k half some)
            ∙ step_digit hi e bit some
            ∙ ap (λ (m : ℕ). m / e) (sym (upper_bits w word i d in_word));
      }

-- what a comparison, a difference and a choice make
pub reduced_gate : ExtendsThrough → ShowsLater → ShowsOpposite → (n : ℕ) (old first second new : Formula)
    → (word divisor shorter rest : List Lit) (less digit : Lit) → digit ≡ opposite_of less
    → IsGate old first less (λ w. nat_lt (number_of w word) (number_of w divisor))
    → IsWordGate first second shorter (λ w. (number_of w word + (2 ^ n - number_of w divisor)) % 2 ^ n)
    → IsWordGate second new rest (λ w. if lit_value w less then number_of w word else number_of w shorter)
    → IsReduced n old new word divisor rest digit
reduced_gate through later opposite n old first second new word divisor shorter rest less digit is compared taken
    chosen =
    let value = λ (w : ℕ → Bool). nat_lt (number_of w word) (number_of w divisor) in
    let whole = through first second new taken.extends chosen.extends in
    record {
      shows = subst (λ (lit : Lit). Shows new lit (λ w. not (value w))) (sym is)
          (opposite new less value (later first new less value whole.continues compared.shows));
      gate = word_after through old second new rest _ _ (through old first second compared.extends taken.extends)
          (λ w h. ap (λ (t : Bool). if t then number_of w word else number_of w shorter)
          (compared.shows.is w (taken.extends.keeps w h))
          ∙ ap (λ (m : ℕ). if value w then number_of w word else m) (taken.is w h)) chosen;
    }

pub no_step_size : (n : ℕ) (old new : Formula) → Adds 1 1 old new
    → Adds (0 * (4 * n + 2) + 1) (0 * (24 * n + 2) + 1) old new
no_step_size n old new first = record {
  variables = let v = first.variables in omega (arith, v);
  clauses = let c = first.clauses in omega (arith, c);
}

pub more_steps_size : (n k : ℕ) (old mid new : Formula) → Adds (k * (4 * n + 2) + 1) (k * (24 * n + 2) + 1) old mid
    → Adds (4 * n + 2) (24 * n + 2) mid new → Adds ((k + 1) * (4 * n + 2) + 1) ((k + 1) * (24 * n + 2) + 1) old new
more_steps_size n k old mid new first second = record {
  variables = let v = first.variables in let u = second.variables in omega (arith, v, u);
  clauses = let c = first.clauses in let d = second.clauses in omega (arith, c, d);
}

-- what three steps keep
pub keeps_three : ConservativeThrough → (old first second new : Formula) → IsConservative old first
    → IsConservative first second → IsConservative second new → IsConservative old new
keeps_three through old first second new one two three =
    through old second new (through old first second one two) three

-- a division of two words that were made for numbers
pub division_of_words : ExtendsThrough → (n : ℕ) (old first second new : Formula) (x y quotient rest : List Lit)
    (number divisor : (ℕ → Bool) → ℕ)
    → IsWordGate old first x number → IsWordGate first second y divisor → IsDivided 0 n second new x y quotient rest
    → IsDivision n old new number divisor quotient rest
division_of_words through n old first second new x y quotient rest number divisor one two made = record {
  extends = through old second new (through old first second one.extends two.extends) made.extends;
  quotient_within = made.quotient_within;
  rest_within = made.rest_within;
  rest_is = λ w h half.
      let l = made.extends.keeps w h in
      let x_is = one.is w (two.extends.keeps w l) in
      let y_is = two.is w l in
      made.rest_is w h (omega (arith, half, y_is)) ∙ ap (λ (m : ℕ). m % number_of w y) x_is
      ∙ ap (λ (m : ℕ). number w % m) y_is;
  quotient_is = λ w h half some.
      let l = made.extends.keeps w h in
      let x_is = one.is w (two.extends.keeps w l) in
      let y_is = two.is w l in
      made.quotient_is w h (omega (arith, half, y_is)) (omega (arith, some, y_is))
      ∙ ap (λ (m : ℕ). m / number_of w y) x_is ∙ ap (λ (m : ℕ). number w / m) y_is;
}
