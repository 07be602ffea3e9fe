-- Serves the search for shapes: where the instruction of a pc stands in the list.
use Rattle.std.specs.Prelude.{◌≡◌, ℕ, ◌==◌, ◌&&◌, if◌then◌else◌, List, slice_get, Option, Some, option_and_then}
use Rattle.std.specs.Prelude.{is_none}
use Rattle.ck_shapes.specs.declared.flow.Step.{Step}
use Rattle.ck_shapes.specs.Rules.{step_at}

-- the place that is noted of a pc
abbrev pub place_at : List (Option ℕ) → ℕ → Option ℕ
place_at places pc = option_and_then (λ p. p) (slice_get places pc)

-- the place of a pc, where one was noted of another, unless there was one
abbrev pub noted : List (Option ℕ) → ℕ → ℕ → ℕ → Option ℕ
noted places pc place at = if (pc == at) && is_none (place_at places at) then Some place else place_at places at

-- the places are those of the instructions
abbrev pub ArePlaces : List Step → List (Option ℕ) → Type 0
ArePlaces steps places = (pc : ℕ) → step_at steps pc ≡ option_and_then (slice_get steps) (place_at places pc)
