-- The instructions of the methods of a class file.
use Rattle.std.specs.Prelude.{◌<◌, ◌^◌, List, length}
use Rattle.std.specs.List.{AllZip, AllByRecursion}
use Rattle.cf_structure.specs.Raw.{RawFile}
use Rattle.cf_code.specs.declared.code.Placed.{Placed}
use Rattle.cf_code.specs.Decoding.{IsCode}
use Rattle.cf_bodies.specs.Places.{PlacedCode, codes}

-- a Code has fewer bytes of code than a pc has values (4.7.3)
abbrev pub IsShort : PlacedCode → Type 0
IsShort c = length c.content.code < 2 ^ 16

abbrev pub AreShort : RawFile → Type 0
AreShort file = AllByRecursion IsShort (codes file)

-- the instructions of each Code, beside it
abbrev pub AreBodies : List PlacedCode → List (List Placed) → Type 0
AreBodies cs bodies = AllZip (λ c body. IsCode c.content.code body) cs bodies
