-- Modified UTF-8, in which a class file spells its texts (JVM Specification SE 8, 4.4.7).
use Rattle.std.specs.Prelude.{◌≡◌, ◌≢◌, ℕ, ◌+◌, ◌/◌, ◌%◌, ◌^◌, ◌<◌, ◌&&◌, nat_lt, if◌then◌else◌, List, [], ◌∷◌, ◌++◌, length, All}
use Rattle.std.specs.List.{flat_map}

-- a UTF-16 code unit
abbrev pub IsUnit : ℕ → Type 0
IsUnit u = u < 2 ^ 16

-- a unit in bytes: one from 1 to 0x7f, two for 0 and from 0x80 to 0x7ff, three from 0x800 on
unfoldable pub encoded_unit : ℕ → List ℕ
encoded_unit u =
    if nat_lt 0 u && nat_lt u 0x80 then u ∷ []
    else (if nat_lt u 0x800 then (0xc0 + u / 64) ∷ (0x80 + u % 64) ∷ []
    else (0xe0 + u / 4096) ∷ (0x80 + u / 64 % 64) ∷ (0x80 + u % 64) ∷ [])

-- units one after the other
abbrev pub encoded_units : List ℕ → List ℕ
encoded_units units = flat_map encoded_unit units

-- the text is the spelling of these units
pub record AreUnitsOf (text units : List ℕ) : Type 0 where
  pub units_fit : All IsUnit units
  pub spelled : text ≡ encoded_units units

-- the bytes do not begin with the spelling of a unit
abbrev pub BeginNoUnit : List ℕ → Type 0
BeginNoUnit bytes = (u : ℕ) (after : List ℕ) → IsUnit u → bytes ≢ encoded_unit u ++ after

-- the place of the first byte of the first unit at fault: what stands before it spells units, and from it on none is spelled
pub record IsBadUnit (text : List ℕ) (place : ℕ) : Type 0 where
  pub units : List ℕ
  pub rest : List ℕ
  pub units_fit : All IsUnit units
  pub parts : text ≡ encoded_units units ++ rest
  pub place_is : place ≡ length (encoded_units units)
  pub more : 0 < length rest
  pub none : BeginNoUnit rest
