-- The first word for what is wrong.
use Rattle.std.specs.Prelude.{◌≤◌, Option, Some, None}
use Rattle.cf_pool.specs.declared.fault.What.{What}
use Rattle.cf_judge.specs.Words.{rank}

-- a word is the first one that says what is wrong, and no word says that nothing is
abbrev pub TellsWord : (What → Type 0) → Option What → Type 0
TellsWord Wrong None = (what : What) → Wrong what → ⊥
TellsWord Wrong (Some first) = Wrong first × ((what : What) → Wrong what → rank first ≤ rank what)
