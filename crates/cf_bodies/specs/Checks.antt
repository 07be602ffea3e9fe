-- What is checked of the code of methods (JVM Specification SE 8, 4.7.3 and 4.9.1), at its place, in file order.
use Rattle.std.specs.Prelude.{ℕ, ◌+◌, List, [], ◌∷◌}
use Rattle.std.specs.List.{flat_map}
use Rattle.jv_list.specs.Places.{each_place}
use Rattle.cf_structure.specs.declared.code.Row.{Row}
use Rattle.cf_structure.specs.Raw.{RawFile}
use Rattle.cf_structure.specs.Spelled.{row_text}
use Rattle.cf_judge.specs.Demands.{rows_place}
use Rattle.cf_bodies.specs.Places.{PlacedCode, codes}

-- what is checked
pub data Check : Type 0 where
  -- the bytes of a method's code
  is_code : List ℕ → Check
  -- a row of the exception table of the code with these bytes
  is_row : List ℕ → Row → Check

-- what is checked at a place
pub record CheckAt : Type 0 where
  pub place : ℕ
  pub check : Check

abbrev pub check_at : ℕ → Check → CheckAt
check_at place check = record { place = place; check = check }

-- a row of the code with these bytes
abbrev pub row_checks : List ℕ → ℕ → Row → List CheckAt
row_checks bytes place row = check_at place (is_row bytes row) ∷ []

-- the rows of the code with these bytes
abbrev pub rows_checks : List ℕ → ℕ → List Row → List CheckAt
rows_checks bytes place rows = each_place (row_checks bytes) row_text place rows

-- a Code (4.7.3): its code stands behind max_stack, max_locals and code_length, its rows behind the code and their count
abbrev pub code_checks : PlacedCode → List CheckAt
code_checks c =
    check_at (c.place + 8) (is_code c.content.code)
    ∷ rows_checks c.content.code (rows_place c.place c.content) c.content.rows

-- a class file
abbrev pub checks : RawFile → List CheckAt
checks file = flat_map code_checks (codes file)
