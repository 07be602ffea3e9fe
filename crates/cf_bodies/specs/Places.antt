-- The Codes of the methods of a class file, with the places of their contents (JVM Specification SE 8, 4.1, 4.6 and 4.7), in file
-- order.
use Rattle.std.specs.Prelude.{ℕ, ◌+◌, List, [], ◌∷◌, length}
use Rattle.std.specs.List.{flat_map}
use Rattle.jv_list.specs.Places.{each_place}
use Rattle.cf_pool.specs.Spelling.{entry_text}
use Rattle.cf_structure.specs.Raw.{RawCode, RawBody, constant, code, skipped, RawAttribute, RawMember, RawFile}
use Rattle.cf_structure.specs.Spelled.{attribute_text, member_text}
use Rattle.cf_judge.specs.Demands.{methods_place}

-- a Code whose content begins at a place
pub record PlacedCode : Type 0 where
  pub place : ℕ
  pub content : RawCode

abbrev pub body_codes : ℕ → RawBody → List PlacedCode
body_codes place (constant index) = []
body_codes place (code c) = record { place = place; content = c } ∷ []
body_codes place (skipped content) = []

-- an attribute of a method: its content stands behind its name and its length
abbrev pub attribute_codes : ℕ → RawAttribute → List PlacedCode
attribute_codes place a = body_codes (place + 6) a.body

-- a method (4.6): its attributes stand behind its flags, its name, its descriptor and their count
abbrev pub method_codes : ℕ → RawMember → List PlacedCode
method_codes place m = each_place attribute_codes attribute_text (place + 8) m.attributes

-- where the methods of a class file begin: the entries of its pool begin at place 10
abbrev pub methods_start : RawFile → ℕ
methods_start file = methods_place (10 + length (flat_map entry_text file.pool)) file.class

-- a class file
abbrev pub codes : RawFile → List PlacedCode
codes file = each_place method_codes member_text (methods_start file) file.class.methods
