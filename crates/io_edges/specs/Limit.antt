-- How many bytes a sink in memory takes.
use Rattle.std.specs.Prelude.{ℕ, Option, None, Some, min}

-- the number that was asked for, but no more than there is room for
abbrev pub limit_from : Option ℕ → ℕ
limit_from None = 16777216
limit_from (Some n) = min n 16777216
