-- How far a pc is in an interval.
use Rattle.std.specs.Prelude.{ℕ, ◌+◌, ◌≤◌}
use Rattle.uw_keys.specs.declared.order.Phase.{Phase}
use Rattle.uw_keys.specs.declared.order.Phase.TheVariants.{Round, Behind}

-- as a number, for a limit
abbrev pub number_of : ℕ → Phase → ℕ
number_of limit (Round c) = c
number_of limit Behind = limit + 1

-- the round is not above the limit
abbrev pub IsWithin : ℕ → Phase → Type 0
IsWithin limit (Round c) = c ≤ limit
IsWithin limit Behind = Unit {0}
