-- Which instruction can follow which in one frame (JVM Specification SE 8, 6.5, and 2.10 for handlers).
use Rattle.std.specs.Prelude.{◌≡◌, ◌⊎◌, ℕ, ◌+◌, ◌≤◌, ◌<◌, true, List, length, Contains}
use Rattle.std.specs.List.{AllAdjacentBelow}
use Rattle.cf_code.specs.declared.code.Placed.{Placed}
use Rattle.cf_code.specs.declared.transfer.Row.{Row}
use Rattle.cf_code.specs.Instr.{spelling}
use Rattle.cf_code.specs.Targets.{targets, goes_on}
use Rattle.cf_code.specs.Decoding.{pcs}

-- the pc behind an instruction
abbrev pub next_pc : Placed → ℕ
next_pc placed = placed.pc + length (spelling placed.pc placed.instr)

-- a row holds a pc: from its start on, below its end
abbrev pub HoldsPc : Row → ℕ → Type 0
HoldsPc row pc = (row.start ≤ pc) × (pc < row.end)

-- the instruction at b can follow the one at a: as the next one, as a target, or as the handler of a row that holds a
pub record CanFollow (code : List Placed) (rows : List Row) (a b : ℕ) : Type 0 where
  pub placed : Placed
  pub is_placed : Contains code placed
  pub pc : placed.pc ≡ a
  pub way :
      ((goes_on placed.instr ≡ true) × (b ≡ next_pc placed) × Contains (pcs code) b)
      ⊎ Contains (targets placed.instr) b
      ⊎ ((row : Row) × Contains rows row × HoldsPc row a × (b ≡ row.handler))

-- pairs in order: by the first number, then by the second, none twice
abbrev pub IsBelow : ℕ × ℕ → ℕ × ℕ → Type 0
IsBelow (a, b) (c, d) = (a < c) ⊎ ((a ≡ c) × (b < d))

abbrev pub AreInOrder : List (ℕ × ℕ) → Type 0
AreInOrder pairs = AllAdjacentBelow IsBelow pairs (length pairs)
