-- What holds of the definitions, in the words of java.lang.String.
use Rattle.std.specs.Prelude.{◌≡◌, ◌≢◌, ◌<◌, ◌++◌, ◌↔◌, ◌-ℤ◌, ℕ, pos, List, length, take, slice_index, Some, None}
use Rattle.std.specs.Int.{int_wrap, w32}
use Rattle.st_text.specs.Text.{place_of}
use Rattle.st_text.specs.Order.{compare_of}

-- where two texts have different units at a place, and the same before it, `compareTo` gives the difference of those units
abbrev pub ComparesUnits : Type 0
ComparesUnits = (a b : List ℕ) (k : ℕ) → k < length a → k < length b → take k a ≡ take k b
    → slice_index a k ≢ slice_index b k → compare_of a b ≡ pos (slice_index a k) -ℤ pos (slice_index b k)

-- where there is no such place, one of them is a prefix of the other, and it gives the difference of the lengths
abbrev pub ComparesLengths : Type 0
ComparesLengths = (a rest : List ℕ)
    → (compare_of a (a ++ rest) ≡ int_wrap w32 (pos (length a) -ℤ pos (length (a ++ rest))))
    × (compare_of (a ++ rest) a ≡ int_wrap w32 (pos (length (a ++ rest)) -ℤ pos (length a)))

-- the unit stands at the place, and at none before it
pub record IsLeastPlace (text : List ℕ) (unit place : ℕ) : Type 0 where
  pub within : place < length text
  pub stands : slice_index text place ≡ unit
  pub least : (k : ℕ) → k < place → slice_index text k ≢ unit

-- `indexOf` finds a place exactly where it is the least at which the unit stands
abbrev pub FindsLeast : Type 0
FindsLeast = (text : List ℕ) (unit place : ℕ)
    → (place_of text unit ≡ Some place) ↔ IsLeastPlace text unit place

-- and none exactly where it stands nowhere
abbrev pub FindsNone : Type 0
FindsNone = (text : List ℕ) (unit : ℕ)
    → (place_of text unit ≡ None) ↔ ((k : ℕ) → k < length text → slice_index text k ≢ unit)
