-- How far a text begins an escape: one unit or two.
use Rattle.std.proofs.Common.{◌≡◌, ℕ, ◌+◌, ◌-◌, ◌*◌, ◌^◌, ◌<◌, ◌≤◌, ◌⊎◌, true, false, List, [], ◌∷◌, ◌++◌, length, refl}
use Rattle.std.proofs.Common.{sym, ap, subst, ◌∙◌, arith, inl, inr}
use Rattle.std.specs.Char.{IsScalar}
use Rattle.std.proofs.Math.Utf8.{scalar_cases, low_scalar}
use Rattle.std.proofs.lemmas.Bool.{cases_lt}
use Rattle.std.proofs.lemmas.List.{append-nil}
use Rattle.jv_base.specs.Forms.{IsEscape}
use Rattle.jv_base.specs.Front.{Begins}
use Rattle.jv_base.specs.Calls.Fronts.{IsLongestFront}
use Rattle.jv_base.specs.Spelling.{escaped_unit, escape_text}
use Rattle.jv_base.specs.Calls.Units.{IsEscapeUnit, IsEscapedUnit}
use Rattle.jv_base.proofs.BlockLemmas.{not_plain, unit_fits, high_first}
use Rattle.jv_base.proofs.EscapeLemmas.{IsPair, escape_small, escape_big, high_fits, high_of, low_of}
use Rattle.jv_base.proofs.EscapeLemmas.{pair_found}
use Rattle.jv_base.proofs.FrontLemmas.{IsStart, stops, stops_before, stops_after}
use Rattle.jv_base.proofs.UnitLemmas.{unit_same, unit_length, unit_ends}
use Rattle.jv_list.proofs.TextLemmas.{high_scalar, not_surrogate}

abbrev NotHigh : ℕ → Type 0
NotHigh unit = 0xd800 ≤ unit → unit < 0xdc00 → ⊥

unit_scalar : (u : ℕ) → IsEscapeUnit false u → NotHigh u → IsScalar u
unit_scalar u is other =
    elim is.2 [
      | inl lt ↦ elim (cases_lt u 0xd800) [ inl below ↦ low_scalar u below | inr le ↦ absurd (other le lt) ]
      | inr high ↦ high_scalar u high.0 (omega (arith, high.1))
    ]

-- ---- the escape of a character

escape_one : (u : ℕ) → IsEscapeUnit false u → NotHigh u → IsEscape (escaped_unit u)
escape_one u is other =
    let spelled : escaped_unit u ++ [] ≡ escape_text u ++ [] = sym (escape_small u [] (unit_fits false u is)) in
    let whole = sym (append-nil (escaped_unit u)) ∙ spelled ∙ append-nil (escape_text u) in
    (u, unit_scalar u is other, is.0, (is.1, whole))

escape_two : (high low : ℕ) → IsPair high low → IsEscape (escaped_unit high ++ escaped_unit low)
escape_two high low p =
    let c = 0x1_0000 + ((high - 0xd800) * 1024 + (low - 0xdc00)) in
    let bound : c < 0x11_0000 = omega (arith, p.from, p.to, p.from_low, p.to_low) in
    let found = pair_found high low c (escaped_unit low) [] p refl (sym (append-nil (escaped_unit low))) in (
      c,
      high_scalar c (omega arith) bound,
      not_plain c (omega arith),
      ((λ z. omega arith), found ∙ append-nil (escape_text c)),
    )

record IsOne (text : List ℕ) : Type 0 where
  unit : ℕ
  valid : IsEscapeUnit false unit
  other : NotHigh unit
  is : text ≡ escaped_unit unit

record IsTwo (text : List ℕ) : Type 0 where
  high : ℕ
  low : ℕ
  pair : IsPair high low
  is : text ≡ escaped_unit high ++ escaped_unit low

escape_cases : (text : List ℕ) → IsEscape text → IsOne text ⊎ IsTwo text
escape_cases text (c, scalar, other, (nonzero, e)) =
    let whole : text ≡ escape_text c ++ [] = e ∙ sym (append-nil (escape_text c)) in
    elim (cases_lt c 0x1_0000) [
      | inl lt ↦ inl (record {
        unit = c;
        valid = (other, nonzero, low_or_high lt);
        other = λ from to. not_surrogate c scalar from (omega arith);
        is = whole ∙ escape_small c [] lt ∙ append-nil (escaped_unit c);
      })
      | inr le ↦
          let high = high_fits c scalar le in
          let low : escaped_unit (low_of c) ++ [] ≡ escaped_unit (low_of c) = append-nil (escaped_unit (low_of c)) in
          inr (record {
            high = high_of c;
            low = low_of c;
            pair = record { from = omega arith; to = high; from_low = omega arith; to_low = omega arith };
            is = whole ∙ escape_big c [] le ∙ ap (λ (t : List ℕ). escaped_unit (high_of c) ++ t) low;
          })
    ]
  where
    low_or_high : c < 0x1_0000 → (c < 0xdc00) ⊎ ((0xe000 ≤ c) × (c < 2 ^ 16))
    low_or_high lt =
        elim (scalar_cases c scalar) [ inl a ↦ inl (omega arith) | inr b ↦ inr (omega arith, omega arith) ]

-- ---- its front

begins_escape : (u : ℕ) → IsEscapeUnit false u → Begins IsEscape (escaped_unit u)
begins_escape u valid =
    elim (cases_lt u 0xd800) [
      | inl lt ↦ alone (λ from to. omega arith)
      | inr le ↦ elim (cases_lt u 0xdc00) [
        | inl lt ↦
            let pair : IsPair u 0xdc00 =
            record { from = le; to = lt; from_low = omega arith; to_low = omega arith } in
            (escaped_unit 0xdc00, escape_two u 0xdc00 pair)
        | inr above ↦ alone (λ from to. omega arith)
      ]
    ]
  where
    alone : NotHigh u → Begins IsEscape (escaped_unit u)
    alone other = ([], subst IsEscape (sym (append-nil (escaped_unit u))) (escape_one u valid other))

unit_starts : IsStart (IsEscapedUnit false) IsEscape 6
unit_starts = record {
  sized = λ t g. ap length g.2 ∙ unit_length g.0;
  goes_on = λ t g. subst (Begins IsEscape) (sym g.2) (begins_escape g.0 g.1);
  falls = λ t g. elim (escape_cases t g) [
    | inl one ↦
        let whole = one.is ∙ sym (append-nil (escaped_unit one.unit)) in
        (escaped_unit one.unit, [], (one.unit, one.valid, refl), whole)
    | inr two ↦
        let first = high_first two.high two.pair.from two.pair.to in
        (escaped_unit two.high, escaped_unit two.low, (two.high, first, refl), two.is)
  ];
}

pub first_front : (text : List ℕ) (count : ℕ) → count < 6 → IsLongestFront (IsEscapedUnit false) text count
    → IsLongestFront IsEscape text count
first_front = stops_before unit_starts

pub whole_one : (text rest : List ℕ) (u : ℕ) → IsEscapeUnit false u → NotHigh u → text ≡ escaped_unit u ++ rest
    → IsLongestFront IsEscape text 6
whole_one text rest u valid other e =
    let fits = unit_fits false u valid in
    let begins = begins_escape u valid in
    subst (λ (n : ℕ). IsLongestFront IsEscape text n) (unit_length u)
    (stops IsEscape text (escaped_unit u) rest e begins
    (λ x after more s h. elim (escape_cases (escaped_unit u ++ x ∷ more) h) [
      | inl one ↦ unit_ends u one.unit x more fits (unit_fits false one.unit one.valid) one.is
      | inr two ↦
          let small : two.high < 2 ^ 16 = omega (arith, two.pair.to) in
          let same = unit_same u two.high (x ∷ more) (escaped_unit two.low) fits small two.is in
          other (omega (arith, same.0, two.pair.from)) (omega (arith, same.0, two.pair.to))
    ]))

pub whole_low : (text rest : List ℕ) (u : ℕ) → IsEscapeUnit true u → text ≡ escaped_unit u ++ rest
    → IsLongestFront (IsEscapedUnit true) text 6
whole_low text rest u valid e =
    subst (λ (n : ℕ). IsLongestFront (IsEscapedUnit true) text n) (unit_length u)
    (stops (IsEscapedUnit true) text (escaped_unit u) rest e ([], (u, valid, append-nil (escaped_unit u)))
    (λ x after more s h.
    unit_ends u h.0 x more (unit_fits true u valid) (unit_fits true h.0 h.1) h.2))

-- behind a high surrogate a low one
pub after_high : (high : ℕ) → 0xd800 ≤ high → high < 0xdc00 → (text rest : List ℕ) (count : ℕ)
    → text ≡ escaped_unit high ++ rest → IsLongestFront (IsEscapedUnit true) rest count
    → IsLongestFront IsEscape text (6 + count)
after_high high from to text rest count e h =
    subst (λ (n : ℕ). IsLongestFront IsEscape text (n + count)) (unit_length high)
    (stops_after (IsEscapedUnit true) IsEscape (escaped_unit high) pair parts text rest count e h)
  where
    pair : (t : List ℕ) → IsEscapedUnit true t → IsEscape (escaped_unit high ++ t)
    pair t g =
        let both : IsPair high g.0 = record { from = from; to = to; from_low = g.1.0; to_low = g.1.1 } in
        subst (λ (x : List ℕ). IsEscape (escaped_unit high ++ x)) (sym g.2) (escape_two high g.0 both)

    parts : (t : List ℕ) → IsEscape (escaped_unit high ++ t) → IsEscapedUnit true t
    parts t g =
        elim (escape_cases (escaped_unit high ++ t) g) [
          | inl one ↦
              let whole = one.is ∙ sym (append-nil (escaped_unit one.unit)) in
              let same = unit_same high one.unit t [] (omega arith) (unit_fits false one.unit one.valid) whole in
              absurd (one.other (omega (arith, same.0)) (omega (arith, same.0)))
          | inr two ↦
              let small : two.high < 2 ^ 16 = omega (arith, two.pair.to) in
              let same = unit_same high two.high t (escaped_unit two.low) (omega arith) small two.is in
              (two.low, (two.pair.from_low, two.pair.to_low), same.1)
        ]
