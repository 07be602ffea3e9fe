-- Serves transfers: the pairs of pcs that come of an instruction, as lists.
use Rattle.std.specs.Prelude.{◌≡◌, ◌↔◌, ◌⊎◌, ℕ, ◌==◌, ◌≤◌, ◌<◌, List, [], ◌++◌, map, Contains, Option, Some, None, if◌then◌else◌}
use Rattle.std.specs.Option.{option_to_list}
use Rattle.std.specs.List.{list_any}
use Rattle.std.specs.List.Sorted.{IsPartitionPoint}
use Rattle.cf_code.specs.declared.code.Placed.{Placed}
use Rattle.cf_code.specs.declared.transfer.Row.{Row}
use Rattle.cf_code.specs.Targets.{targets, goes_on}
use Rattle.cf_code.specs.Transfers.{next_pc, HoldsPc}

-- a pc, where it is one of these
abbrev pub found_start : List ℕ → ℕ → Option ℕ
found_start starts pc = if list_any (λ start. pc == start) starts then Some pc else None

-- to the next instruction, where one is placed there
abbrev pub next_ways : List ℕ → Placed → List (ℕ × ℕ)
next_ways starts placed = if goes_on placed.instr then map (λ next. (placed.pc, next)) (option_to_list (found_start starts (next_pc placed))) else []

-- to each target
abbrev pub target_ways : Placed → List (ℕ × ℕ)
target_ways placed = map (λ target. (placed.pc, target)) (targets placed.instr)

-- what comes of an instruction by itself, with these pcs of instructions
abbrev pub ways : List ℕ → Placed → List (ℕ × ℕ)
ways starts placed = next_ways starts placed ++ target_ways placed

-- ---- handlers

-- of these pcs so many are below a pc: those before them in the list
abbrev pub IsCountBelow : List ℕ → ℕ → ℕ → Type 0
IsCountBelow starts pc count = IsPartitionPoint (λ start. start < pc) (λ start. pc ≤ start) starts count

-- to the pairs that were there come those of which this holds
abbrev pub Adds : List (ℕ × ℕ) → List (ℕ × ℕ) → (ℕ → ℕ → Type 0) → Type 0
Adds old new P = (a b : ℕ) → Contains new (a, b) ↔ (Contains old (a, b) ⊎ P a b)

-- one of these pcs, from one on and below another, and a handler
abbrev pub IsInRange : List ℕ → ℕ → ℕ → ℕ → ℕ → ℕ → Type 0
IsInRange starts from end handler a b = Contains starts a × (from ≤ a) × (a < end) × (b ≡ handler)

-- one of these pcs, and the handler of a row that holds it
abbrev pub IsHandled : List ℕ → List Row → ℕ → ℕ → Type 0
IsHandled starts rows a b = Contains starts a × ((row : Row) × Contains rows row × HoldsPc row a × (b ≡ row.handler))

-- the row before another holds a pc too, with the same handler
abbrev pub IsHeldToo : Option Row → Row → ℕ → Type 0
IsHeldToo last row pc = (other : Row) × (last ≡ Some other) × HoldsPc other pc × (other.handler ≡ row.handler)
