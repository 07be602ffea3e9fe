-- The Codes that were found, without where they lie in memory.
use Rattle.std.specs.Prelude.{◌+◌, ◌^◌, ◌<◌, length}
use Rattle.cf_structure.specs.Spelled.{code_text}
use Rattle.cf_structure.specs.Views.{code_of}
use Rattle.cf_bodies.specs.declared.place.CodeAt.{CodeAt}
use Rattle.cf_bodies.specs.Places.{PlacedCode}
use Rattle.cf_bodies.specs.Bodies.{IsShort}

abbrev pub placed_of : CodeAt → PlacedCode
placed_of c = record { place = c.place; content = code_of c.code.now }

-- the places within it are numbers of 64 bits, and its code is as short as the code of a method has to be (4.7.3)
pub record FitsPlaced (c : PlacedCode) : Type 0 where
  pub end : c.place + length (code_text c.content) < 2 ^ 64
  pub short : IsShort c
