-- Bytes begin with a unit or with none, and a text is units or has a first unit at fault.
use Rattle.std.proofs.Common.{◌≡◌, ◌≢◌, ℕ, zero, suc, ◌+◌, ◌-◌, ◌*◌, ◌<◌, ◌≤◌, ◌⊎◌, List, [], ◌∷◌, ◌++◌, length, refl}
use Rattle.std.proofs.Common.{sym, ap, subst, ◌∙◌, append_assoc, arith, inl, inr}
use Rattle.std.proofs.lemmas.Bool.{cases_lt}
use Rattle.std.proofs.lemmas.List.{length-append}
use Rattle.std.proofs.lemmas.List.Elements.{All-nil, All-cons}
use Rattle.cf_pool.specs.ModifiedUtf8.{IsUnit, encoded_unit, encoded_units, AreUnitsOf, BeginNoUnit, IsBadUnit}
use Rattle.cf_pool.proofs.UnitLemmas.{one_found, two_found, three_found, none_of_first, none_of_two_end}
use Rattle.cf_pool.proofs.UnitLemmas.{none_of_two_second, none_of_two_short, none_of_three_end, none_of_three_second}
use Rattle.cf_pool.proofs.UnitLemmas.{none_of_three_middle, none_of_three_third, none_of_three_short, unit_length}

-- the bytes begin with a unit
pub record HasUnit (bytes : List ℕ) : Type 0 where
  pub unit : ℕ
  pub after : List ℕ
  pub fits : IsUnit unit
  pub parts : bytes ≡ encoded_unit unit ++ after

-- a byte has six low bits behind 0x80
pub record HasLow (byte : ℕ) : Type 0 where
  pub bits : ℕ
  pub small : bits < 64
  pub is : byte ≡ 0x80 + bits

low_decided : (b : ℕ) → HasLow b ⊎ ((bits : ℕ) → bits < 64 → b ≢ 0x80 + bits)
low_decided b =
    elim (cases_lt b 0x80) [
      | inl below ↦ inr (λ bits small e. omega arith)
      | inr above ↦ elim (cases_lt b 0xc0) [
        | inl inside ↦ inl (record { bits = b - 0x80; small = omega arith; is = omega arith })
        | inr beyond ↦ inr (λ bits small e. omega arith)
      ]
    ]

two_unit : (high second : ℕ) (rest : List ℕ) → high < 32 → (low : HasLow second)
    → (0 < high * 64 + low.bits → 0x80 ≤ high * 64 + low.bits) → HasUnit ((0xc0 + high) ∷ second ∷ rest)
two_unit high second rest h low long = record {
  unit = high * 64 + low.bits;
  after = rest;
  fits = omega (arith, low.small);
  parts = two_found high low.bits (high * 64 + low.bits) (second ∷ rest) rest h low.small refl long
      (ap (λ (b : ℕ). b ∷ rest) low.is);
}

two_decided : (high : ℕ) (bytes : List ℕ) → high < 32 → HasUnit ((0xc0 + high) ∷ bytes)
    ⊎ BeginNoUnit ((0xc0 + high) ∷ bytes)
two_decided high [] h = inr (none_of_two_end high [] h refl)
two_decided high (second ∷ rest) h =
    elim (low_decided second) [
      | inr none ↦ inr (none_of_two_second high second (second ∷ rest) rest h refl none)
      | inl low ↦ elim (cases_lt (high * 64 + low.bits) 0x80) [
        | inr long ↦ inl (two_unit high second rest h low (λ above. long))
        | inl short ↦ elim (cases_lt 0 (high * 64 + low.bits)) [
          | inl above ↦
              inr (none_of_two_short high low.bits (second ∷ rest) rest h low.small
              (ap (λ (b : ℕ). b ∷ rest) low.is) above short)
          | inr nothing ↦ inl (two_unit high second rest h low (λ above. absurd (omega arith)))
        ]
      ]
    ]

three_with : (high second third : ℕ) (rest : List ℕ) → high < 16 → HasLow second → HasLow third
    → HasUnit ((0xe0 + high) ∷ second ∷ third ∷ rest) ⊎ BeginNoUnit ((0xe0 + high) ∷ second ∷ third ∷ rest)
three_with high second third rest h middle low =
    let parts : second ∷ third ∷ rest ≡ (0x80 + middle.bits) ∷ (0x80 + low.bits) ∷ rest =
    ap (λ (b : ℕ). b ∷ third ∷ rest) middle.is ∙ ap (λ (b : ℕ). (0x80 + middle.bits) ∷ b ∷ rest) low.is in
    elim (cases_lt (high * 4096 + middle.bits * 64 + low.bits) 0x800) [
      | inl short ↦
          inr (none_of_three_short high middle.bits low.bits
          (second ∷ third ∷ rest) rest h middle.small low.small parts short)
      | inr long ↦ inl (record {
        unit = high * 4096 + middle.bits * 64 + low.bits;
        after = rest;
        fits = omega (arith, middle.small, low.small);
        parts = three_found high middle.bits low.bits (high * 4096 + middle.bits * 64 + low.bits)
            (second ∷ third ∷ rest) rest h middle.small low.small refl long parts;
      })
    ]

three_decided : (high : ℕ) (bytes : List ℕ) → high < 16 → HasUnit ((0xe0 + high) ∷ bytes)
    ⊎ BeginNoUnit ((0xe0 + high) ∷ bytes)
three_decided high [] h = inr (none_of_three_end high [] h refl)
three_decided high (second ∷ []) h = inr (none_of_three_middle high second (second ∷ []) h refl)
three_decided high (second ∷ third ∷ rest) h =
    elim (low_decided second) [
      | inr none ↦ inr (none_of_three_second high second (second ∷ third ∷ rest) (third ∷ rest) h refl none)
      | inl middle ↦ elim (low_decided third) [
        | inr none ↦ inr (none_of_three_third high second third (second ∷ third ∷ rest) rest h refl none)
        | inl low ↦ three_with high second third rest h middle low
      ]
    ]

abbrev pub UnitOrNone : List ℕ → Type 0
UnitOrNone bytes = HasUnit bytes ⊎ BeginNoUnit bytes

first_decided : (first : ℕ) (rest : List ℕ) → UnitOrNone (first ∷ rest)
first_decided first rest =
    elim (cases_lt first 0x80) [
      | inl small ↦ elim (cases_lt 0 first) [
        | inl above ↦
            inl (record { unit = first; after = rest; fits = omega arith; parts = one_found first rest above small })
        | inr nothing ↦ inr (none_of_first first rest (λ a. omega arith) (λ b. omega arith))
      ]
      | inr big ↦ elim (cases_lt first 0xc0) [
        | inl low ↦ inr (none_of_first first rest (λ a. big) (λ b. omega arith))
        | inr high ↦ elim (cases_lt first 0xe0) [
          | inl two ↦ let is : 0xc0 + (first - 0xc0) ≡ first = omega arith in
              subst (λ (b : ℕ). UnitOrNone (b ∷ rest)) is (two_decided (first - 0xc0) rest (omega arith))
          | inr higher ↦ elim (cases_lt first 0xf0) [
            | inl three ↦ let is : 0xe0 + (first - 0xe0) ≡ first = omega arith in
                subst (λ (b : ℕ). UnitOrNone (b ∷ rest)) is (three_decided (first - 0xe0) rest (omega arith))
            | inr beyond ↦ inr (none_of_first first rest (λ a. big) (λ b. beyond))
          ]
        ]
      ]
    ]

-- a text is units, or has a unit at fault
abbrev pub UnitsOrFault : List ℕ → Type 0
UnitsOrFault text = ((us : List ℕ) × AreUnitsOf text us) ⊎ ((place : ℕ) × IsBadUnit text place)

one_more : (text : List ℕ) (u : HasUnit text) → UnitsOrFault u.after → UnitsOrFault text
one_more text u others =
    elim others [
      | inl k ↦ inl (
        u.unit ∷ k.0,
        record {
          units_fit = All-cons IsUnit u.unit k.0 u.fits k.1.units_fit;
          spelled = u.parts
              ∙ ap (λ (t : List ℕ). encoded_unit u.unit ++ t) k.1.spelled;
        },
      )
      | inr k ↦
          let bad = k.1 in inr (
            length (encoded_unit u.unit) + k.0,
            record {
              units = u.unit ∷ bad.units;
              rest = bad.rest;
              units_fit = All-cons IsUnit u.unit bad.units u.fits bad.units_fit;
              parts = u.parts ∙ ap (λ (t : List ℕ). encoded_unit u.unit ++ t) bad.parts ∙ sym
                  (append_assoc (encoded_unit u.unit) (encoded_units bad.units) bad.rest);
              place_is = omega (arith, bad.place_is, length-append (encoded_unit u.unit) (encoded_units bad.units));
              more = bad.more;
              none = bad.none;
            },
          )
    ]

pub units_decided : (n : ℕ) (text : List ℕ) → length text ≤ n → UnitsOrFault text
units_decided n [] le = inl ([], record { units_fit = All-nil IsUnit; spelled = refl })
units_decided zero (b ∷ text) le = absurd (omega arith)
units_decided (suc n) (b ∷ text) le =
    elim (first_decided b text) [
      | inr none ↦
          inr (
            0,
            record {
              units = [];
              rest = b ∷ text;
              units_fit = All-nil IsUnit;
              parts = refl;
              place_is = refl;
              more = omega arith;
              none = none;
            },
          )
      | inl u ↦
          one_more (b ∷ text) u
          (units_decided n u.after
          (omega (
            arith,
            le,
            ap length u.parts,
            length-append (encoded_unit u.unit) u.after,
            unit_length u.unit u.fits,
          )))
    ]
