-- Counts of faults, each a `u64` that stays at its last value.
use Rattle.std.specs.Prelude.{ℕ, ◌+◌, ◌-◌, ◌^◌, ◌≤◌, ◌<◌, min}
use Rattle.std.proofs.Common.{lit<}

-- one more, or the last value of a `u64`
abbrev pub raised : ℕ → ℕ
raised count = min (count + 1) (2 ^ 64 - 1)

-- the count rose in a call, or it stands at the last value
abbrev pub Rose : ℕ → ℕ → Type 0
Rose before now = raised before ≤ now

-- no fault is a count too
pub zero_fits : 0 < 2 ^ 64
zero_fits = lit< tt
