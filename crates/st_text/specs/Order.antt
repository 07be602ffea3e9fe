-- The order of texts (`String.compareTo`).
use Rattle.std.specs.Prelude.{ℕ, ℤ, pos, ◌-ℤ◌, ◌==◌, not, List, length, slice_index, Option, Some, None}
use Rattle.std.specs.Int.{int_wrap, w32}
use Rattle.std.specs.List.{position, zip}

-- the least place at which both texts have a unit, and not the same
abbrev pub first_difference : List ℕ → List ℕ → Option ℕ
first_difference a b = position (λ pair. not (pair.0 == pair.1)) (zip a b)

-- the difference of the units at that place, or that of the lengths, wrapped to 32 bits
abbrev pub difference_at : List ℕ → List ℕ → Option ℕ → ℤ
difference_at a b (Some place) = pos (slice_index a place) -ℤ pos (slice_index b place)
difference_at a b None = int_wrap w32 (pos (length a) -ℤ pos (length b))

-- what `compareTo` gives
abbrev pub compare_of : List ℕ → List ℕ → ℤ
compare_of a b = difference_at a b (first_difference a b)
