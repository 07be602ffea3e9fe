-- A character has one text form, which is no front of another's.
use Rattle.std.proofs.Common.{◌≡◌, ◌≢◌, ℕ, ◌+◌, ◌-◌, ◌*◌, ◌/◌, ◌%◌, ◌<◌, ◌≤◌, true, false, List, [], ◌∷◌, ◌++◌, length}
use Rattle.std.proofs.Common.{get_or, refl, sym, ap, subst, ◌∙◌, append_assoc, arith, inl, inr}
use Rattle.std.specs.Char.{IsScalar}
use Rattle.std.proofs.Math.Utf8.{low_scalar}
use Rattle.std.proofs.lemmas.Bool.{false≢true, cases_lt, cases_Bool, lt-ltb, le-ltb}
use Rattle.std.proofs.lemmas.Bool.Decides.{nat_tests}
use Rattle.std.proofs.lemmas.List.{append-nil, length-append}
use Rattle.jv_base.specs.Calls.Fronts.{HasFront}
use Rattle.jv_base.specs.Spelling.{is_plain, IsUnit, escaped_unit, escape_text, character_text}
use Rattle.jv_base.proofs.UnitLemmas.{HasNoUnit, unit_same, unit_first}
use Rattle.jv_list.proofs.TextLemmas.{scalar_bound, not_surrogate}

-- ---- escapes

abbrev pub high_of : ℕ → ℕ
high_of c = 0xd800 + (c - 0x1_0000) / 0x400

abbrev pub low_of : ℕ → ℕ
low_of c = 0xdc00 + (c - 0x1_0000) % 0x400

pub escape_small : (c : ℕ) (x : List ℕ) → c < 0x1_0000 → escape_text c ++ x ≡ escaped_unit c ++ x
unfolding escape_text
escape_small c x lt = rw (lt-ltb c 0x1_0000 lt, append-nil (escaped_unit c)) refl

pub escape_big : (c : ℕ) (x : List ℕ) → 0x1_0000 ≤ c
    → escape_text c ++ x ≡ escaped_unit (high_of c) ++ (escaped_unit (low_of c) ++ x)
unfolding escape_text
escape_big c x le =
    rw (le-ltb c 0x1_0000 le, append-nil (escaped_unit (low_of c)))
    (append_assoc (escaped_unit (high_of c)) (escaped_unit (low_of c)) x)

pub high_fits : (c : ℕ) → IsScalar c → 0x1_0000 ≤ c → high_of c < 0xdc00
high_fits c h le = let bound = scalar_bound c h in omega arith

-- a character of one unit is none of two
one_not_two : (c d : ℕ) (x y : List ℕ) → IsScalar c → IsScalar d → c < 0x1_0000 → 0x1_0000 ≤ d
    → escape_text c ++ x ≡ escape_text d ++ y → ⊥
one_not_two c d x y sc sd lc ld e =
    let high = high_fits d sd ld in
    let spelled = sym (escape_small c x lc) ∙ e ∙ escape_big d y ld in
    let same = unit_same c (high_of d) x (escaped_unit (low_of d) ++ y) (omega arith) (omega (arith, high)) spelled in
    not_surrogate c sc (omega (arith, same.0)) (omega (arith, same.0, high))

escape_same : (c d : ℕ) (x y : List ℕ) → IsScalar c → IsScalar d → escape_text c ++ x ≡ escape_text d ++ y
    → (c ≡ d) × (x ≡ y)
escape_same c d x y sc sd e =
    elim (cases_lt c 0x1_0000) [
      | inl lc ↦ elim (cases_lt d 0x1_0000) [
        | inl ld ↦ unit_same c d x y (omega arith) (omega arith) (sym (escape_small c x lc) ∙ e ∙ escape_small d y ld)
        | inr ld ↦ absurd (one_not_two c d x y sc sd lc ld e)
      ]
      | inr lc ↦ elim (cases_lt d 0x1_0000) [
        | inl ld ↦ absurd (one_not_two d c y x sd sc ld lc (sym e))
        | inr ld ↦
            let spelled = sym (escape_big c x lc) ∙ e ∙ escape_big d y ld in
            let first = unit_same (high_of c) (high_of d) (escaped_unit (low_of c) ++ x) (escaped_unit (low_of d) ++ y)
            (omega (arith, high_fits c sc lc)) (omega (arith, high_fits d sd ld)) spelled in
            let second = unit_same (low_of c) (low_of d) x y (omega arith) (omega arith) first.1 in
            (omega (arith, first.0, second.0), second.1)
      ]
    ]

abbrev pub HasNoEscape : List ℕ → Type 0
HasNoEscape text = (rest : List ℕ) → HasFront IsScalar escape_text text rest → ⊥

pub escape_no_unit : (text : List ℕ) → HasNoUnit text → HasNoEscape text
escape_no_unit text none rest h =
    elim (cases_lt h.0 0x1_0000) [
      | inl lt ↦ none rest (h.0, omega arith, h.2 ∙ escape_small h.0 rest lt)
      | inr le ↦
          let fits : IsUnit (high_of h.0) = omega (arith, high_fits h.0 h.1 le) in
          none (escaped_unit (low_of h.0) ++ rest) (high_of h.0, fits, h.2 ∙ escape_big h.0 rest le)
    ]

pub escape_found : (text rest : List ℕ) (u c : ℕ) → IsUnit u → c ≡ u → text ≡ escaped_unit u ++ rest
    → text ≡ escape_text c ++ rest
escape_found text rest u c lt same e = rw same (e ∙ sym (escape_small u rest (omega arith)))

-- ---- a surrogate at the front

module _ (high : ℕ) (from : 0xd800 ≤ high) (to : high < 0xe000) (text : List ℕ) where
  -- it is the first of the two of a character
  pair_parts : (rest : List ℕ) → (h : HasFront IsScalar escape_text (escaped_unit high ++ text) rest)
      → (high < 0xdc00) × ((low : ℕ) × (0xdc00 ≤ low) × (low < 0xe000) × (text ≡ escaped_unit low ++ rest))
  pair_parts rest (c, scalar, e) =
      elim (cases_lt c 0x1_0000) [
        | inl lt ↦
            let first = unit_same high c text rest (omega arith) (omega arith) (e ∙ escape_small c rest lt) in
            absurd (not_surrogate c scalar (omega (arith, first.0)) (omega (arith, first.0)))
        | inr le ↦
            let fits = high_fits c scalar le in
            let first = unit_same high (high_of c) text (escaped_unit (low_of c) ++ rest) (omega arith)
            (omega (arith, fits))
            (e ∙ escape_big c rest le) in
            (omega (arith, first.0, fits), (low_of c, omega arith, omega arith, first.1))
      ]

  pub pair_no_low : HasNoUnit text → HasNoEscape (escaped_unit high ++ text)
  pair_no_low none rest h =
      let low = (pair_parts rest h).1 in
      none rest (low.0, omega (arith, low.2), low.3)

  pub pair_no_high : 0xdc00 ≤ high → HasNoEscape (escaped_unit high ++ text)
  pair_no_high above rest h = omega (arith, above, (pair_parts rest h).0)

  pub pair_no_other : (low : ℕ) (after : List ℕ) → IsUnit low → text ≡ escaped_unit low ++ after
      → (((0xdc00 ≤ low) × (low < 0xe000)) → ⊥) → HasNoEscape (escaped_unit high ++ text)
  pair_no_other low after fits e other rest h =
      let found = (pair_parts rest h).1 in
      let same = unit_same low found.0 after rest fits (omega (arith, found.2)) (sym e ∙ found.3) in
      other (omega (arith, same.0, found.1), omega (arith, same.0, found.2))

-- a pair of surrogates
pub record IsPair (high low : ℕ) : Type 0 where
  pub from : 0xd800 ≤ high
  pub to : high < 0xdc00
  pub from_low : 0xdc00 ≤ low
  pub to_low : low < 0xe000

pub pair_found : (high low c : ℕ) (text rest : List ℕ) → IsPair high low
    → c ≡ 0x1_0000 + ((high - 0xd800) * 1024 + (low - 0xdc00)) → text ≡ escaped_unit low ++ rest
    → escaped_unit high ++ text ≡ escape_text c ++ rest
pair_found high low c text rest p is e =
    let first : high ≡ high_of c = omega (arith, p.from, p.to, p.from_low, p.to_low) in
    let second : low ≡ low_of c = omega (arith, p.from, p.to, p.from_low, p.to_low) in
    let spelled = escape_big c rest (omega arith) in
    ap (λ (t : List ℕ). escaped_unit high ++ t) e ∙ ap (λ (h : ℕ). escaped_unit h ++ (escaped_unit low ++ rest)) first
    ∙ ap (λ (l : ℕ). escaped_unit (high_of c) ++ (escaped_unit l ++ rest)) second ∙ sym spelled

-- ---- characters

escape_first : (c : ℕ) (rest : List ℕ) → get_or (escape_text c ++ rest) 0 0 ≡ 92
escape_first c rest =
    elim (cases_lt c 0x1_0000) [
      | inl lt ↦ rw (escape_small c rest lt) (unit_first c rest)
      | inr le ↦ rw (escape_big c rest le) (unit_first (high_of c) (escaped_unit (low_of c) ++ rest))
    ]

pub plain_text : (c : ℕ) (rest : List ℕ) → is_plain c ≡ true → character_text c ++ rest ≡ c ∷ rest
unfolding character_text
plain_text c rest e = rw e refl

pub escaped_text : (c : ℕ) (rest : List ℕ) → is_plain c ≡ false → character_text c ++ rest ≡ escape_text c ++ rest
unfolding character_text
escaped_text c rest e = rw e refl

no_plain_escape : (c d : ℕ) (x y : List ℕ) → is_plain c ≡ true → c ∷ x ≡ escape_text d ++ y → ⊥
no_plain_escape c d x y p e =
    let first : c ≡ 92 = ap (λ (t : List ℕ). get_or t 0 0) e ∙ escape_first d y in
    false≢true (subst (λ (k : ℕ). is_plain k ≡ true) first p)

pub character_same : (c d : ℕ) (x y : List ℕ) → IsScalar c → IsScalar d → character_text c ++ x ≡ character_text d ++ y
    → (c ≡ d) × (x ≡ y)
character_same c d x y sc sd e =
    elim (cases_Bool (is_plain c)) [
      | inl pc ↦ elim (cases_Bool (is_plain d)) [
        | inl pd ↦
            let whole : c ∷ x ≡ d ∷ y = sym (plain_text c x pc) ∙ e ∙ plain_text d y pd in
            let head : c ≡ d = cc in
            let rest : x ≡ y = cc in
            (head, rest)
        | inr nd ↦ absurd (no_plain_escape c d x y pc (sym (plain_text c x pc) ∙ e ∙ escaped_text d y nd))
      ]
      | inr nc ↦ elim (cases_Bool (is_plain d)) [
        | inl pd ↦ absurd (no_plain_escape d c y x pd (sym (sym (escaped_text c x nc) ∙ e ∙ plain_text d y pd)))
        | inr nd ↦ escape_same c d x y sc sd (sym (escaped_text c x nc) ∙ e ∙ escaped_text d y nd)
      ]
    ]

abbrev pub HasNoCharacter : List ℕ → Type 0
HasNoCharacter text = (rest : List ℕ) → HasFront IsScalar character_text text rest → ⊥

first_of_plain : (c : ℕ) → is_plain c ≡ true → c ≢ 0
first_of_plain c p z = false≢true (subst (λ (k : ℕ). is_plain k ≡ true) z p)

-- the first byte of a character is not 0
character_first : (c : ℕ) (rest : List ℕ) → get_or (character_text c ++ rest) 0 0 ≢ 0
character_first c rest =
    elim (cases_Bool (is_plain c)) [
      | inl p ↦ rw (plain_text c rest p) (first_of_plain c p)
      | inr n ↦ rw (escaped_text c rest n) (λ e. omega (arith, sym (escape_first c rest) ∙ e))
    ]

pub no_character_empty : (text : List ℕ) → length text ≡ 0 → HasNoCharacter text
no_character_empty [] e rest h = character_first h.0 rest (ap (λ (t : List ℕ). get_or t 0 0) (sym h.2))
no_character_empty (b ∷ bs) e rest h = absurd (omega arith)

-- behind a byte that is not plain only an escape
module _ (text after : List ℕ) (b : ℕ) (e : text ≡ b ∷ after) (other : is_plain b ≡ false) where
  not_plain : (rest : List ℕ) (h : HasFront IsScalar character_text text rest)
      → (is_plain h.0 ≡ false) × (text ≡ escape_text h.0 ++ rest)
  not_plain rest h =
      elim (cases_Bool (is_plain h.0)) [
        | inl p ↦
            let whole : b ∷ after ≡ h.0 ∷ rest = sym e ∙ h.2 ∙ plain_text h.0 rest p in
            let same : b ≡ h.0 = cc in
            absurd (false≢true (sym other ∙ ap is_plain same ∙ p))
        | inr n ↦ (n, h.2 ∙ escaped_text h.0 rest n)
      ]

  pub no_character_escape : HasNoEscape text → HasNoCharacter text
  no_character_escape none rest h = none rest (h.0, h.1, (not_plain rest h).1)

  -- an escape of a plain character is no text of a character
  pub no_character_plain : (x : List ℕ) (c : ℕ) → IsScalar c → text ≡ escape_text c ++ x → is_plain c ≡ true
      → HasNoCharacter text
  no_character_plain x c sc is p rest h =
      let escaped = not_plain rest h in
      let same = escape_same c h.0 x rest sc h.1 (sym is ∙ escaped.1) in
      false≢true (sym escaped.0 ∙ ap is_plain (sym same.0) ∙ p)

pub plain_scalar : (c : ℕ) → is_plain c ≡ true → IsScalar c
plain_scalar c p =
    low_scalar c (plain_bound c p)
  where
    plain_bound : (c : ℕ) → is_plain c ≡ true → c < 55296
    plain_bound c p = grind (arith, nat_tests)

character_some : (c : ℕ) → 0 < length (character_text c)
character_some c =
    let first = ap (λ (t : List ℕ). get_or t 0 0) (append-nil (character_text c)) in
    some_first (character_text c) (λ e. character_first c [] (first ∙ e))
  where
    some_first : (t : List ℕ) → get_or t 0 0 ≢ 0 → 0 < length t
    some_first [] h = absurd (h refl)
    some_first (b ∷ bs) h = omega arith

pub character_shorter : (text rest : List ℕ) (c : ℕ) → text ≡ character_text c ++ rest → length rest < length text
character_shorter text rest c e =
    let sum : length text ≡ length (character_text c) + length rest =
    ap length e ∙ length-append (character_text c) rest in
    omega (arith, sum, character_some c)
