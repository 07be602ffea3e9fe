-- What moving the bits of a word does to its number.
use Rattle.std.specs.Prelude.{◌+◌, ◌-◌, ◌*◌, ◌/◌, ◌%◌, ◌^◌, ℕ, Bool, if◌then◌else◌}
use Rattle.jv_list.specs.Numbers.{bit_number}

-- a number of n bits moved down by p places, with a bit in the places above, or moved up
abbrev pub moved_number : Bool → ℕ → Bool → ℕ → ℕ → ℕ
moved_number down n fill p k =
    if down then k / 2 ^ p + bit_number fill * (2 ^ n - 2 ^ (n - p)) else (k * 2 ^ p) % 2 ^ n
