-- For private functions and proofs alone: the UTF-16 units that the escapes of names have, by whether they are the
-- second of a character.
use Rattle.std.specs.Prelude.{◌≡◌, ℕ, ◌+◌, ◌*◌, ◌%◌, ◌^◌, ◌<◌, ◌≤◌, ◌⊎◌, Bool, true, false, List, ◌∷◌}
use Rattle.std.specs.Fmt.{digit_glyph}
use Rattle.jv_base.specs.Spelling.{is_plain, escaped_unit}

-- a first unit is no low surrogate, and neither plain nor 0; a second one is a low surrogate
abbrev pub IsEscapeUnit : Bool → ℕ → Type 0
IsEscapeUnit false unit = (is_plain unit ≡ false) × (unit ≡ 0 → ⊥) × ((unit < 0xdc00) ⊎ ((0xe000 ≤ unit) × (unit < 2 ^ 16)))
IsEscapeUnit true unit = (0xdc00 ≤ unit) × (unit < 0xe000)

-- the text of such a unit
abbrev pub IsEscapedUnit : Bool → List ℕ → Type 0
IsEscapedUnit second text = (unit : ℕ) × IsEscapeUnit second unit × (text ≡ escaped_unit unit)

-- the weight of a unit's digit: the number of units with the same digits up to that one
abbrev pub IsWeight : ℕ → Type 0
IsWeight size = (size ≡ 1) ⊎ ((size ≡ 16) ⊎ ((size ≡ 256) ⊎ (size ≡ 4096)))

-- the units from the least one on that have the same digits up to the one of a weight
pub record IsBlock (least size : ℕ) : Type 0 where
  pub weight : IsWeight size
  pub aligned : least % size ≡ 0
  pub within : least + size ≤ 2 ^ 16

-- such a unit is among them
abbrev pub HasUnit : Bool → ℕ → ℕ → Type 0
HasUnit second least size = (unit : ℕ) × IsEscapeUnit second unit × (least ≤ unit) × (unit < least + size)

-- a text begins with a digit of a weight that goes on from the least unit to a next one, of which an escape has some
abbrev pub HasDigit : Bool → ℕ → ℕ → List ℕ → ℕ → List ℕ → Type 0
HasDigit second least size text next rest =
    (d : ℕ) × (d < 16) × (next ≡ least + d * size) × ((text ≡ digit_glyph false d ∷ rest) × HasUnit second next size)

-- a text begins with no such digit
abbrev pub EndsAt : Bool → ℕ → ℕ → List ℕ → Type 0
EndsAt second least size text =
    (d : ℕ) (rest : List ℕ) → d < 16 → text ≡ digit_glyph false d ∷ rest → HasUnit second (least + d * size) size → ⊥
