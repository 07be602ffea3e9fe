-- Operands as bytes (JVM Specification SE 8, 6.5): numbers of one, two and four bytes, the high one first.
use Rattle.std.specs.Prelude.{◌-ℤ◌, ◌<◌, ◌^◌, ℕ, ℤ, pos, List}
use Rattle.std.specs.Int.{w16, w32, cast_unsigned, to_be_bytes}

-- a number of two bytes
abbrev pub two : ℕ → List ℕ
two n = to_be_bytes w16 n

-- a number of four bytes
abbrev pub four : ℕ → List ℕ
four n = to_be_bytes w32 n

-- a signed number of two bytes
abbrev pub signed_two : ℤ → List ℕ
signed_two z = two (cast_unsigned w16 z)

-- a signed number of four bytes
abbrev pub signed_four : ℤ → List ℕ
signed_four z = four (cast_unsigned w32 z)

-- how far a target is from the pc of the instruction that names it
abbrev pub offset : ℕ → ℕ → ℤ
offset pc target = pos target -ℤ pos pc

-- what has a byte
abbrev pub IsByte : ℕ → Type 0
IsByte n = n < 2 ^ 8

-- what has two bytes
abbrev pub IsTwo : ℕ → Type 0
IsTwo n = n < 2 ^ 16
