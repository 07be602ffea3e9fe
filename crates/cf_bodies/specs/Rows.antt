-- The rows of an exception table, against the code that they are of (JVM Specification SE 8, 4.7.3).
use Rattle.std.specs.Prelude.{◌≡◌, ℕ, ◌<◌, List, length, Contains, ◌⊎◌}
use Rattle.cf_structure.specs.declared.code.Row.{Row}
use Rattle.cf_code.specs.declared.code.Placed.{Placed}
use Rattle.cf_code.specs.Decoding.{IsCode, pcs}

-- A row is one of the code that has instructions at these pcs, and so many bytes: start and handler are instructions, the
-- start is below the end, and the end is an instruction, or the length of the code.
pub record IsRowOf (pcs : List ℕ) (size : ℕ) (row : Row) : Type 0 where
  pub below : row.start < row.end
  pub start : Contains pcs row.start
  pub handler : Contains pcs row.handler
  pub end : Contains pcs row.end ⊎ (row.end ≡ size)

-- the bytes are code, and the row is none of it
pub record IsBadRow (bytes : List ℕ) (row : Row) : Type 0 where
  pub code : List Placed
  pub is_code : IsCode bytes code
  pub bad : IsRowOf (pcs code) (length bytes) row → ⊥
