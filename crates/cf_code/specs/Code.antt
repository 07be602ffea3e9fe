-- The bytes of a list of instructions.
use Rattle.std.specs.Prelude.{ℕ, List}
use Rattle.std.specs.List.{flat_map, AllByRecursion}
use Rattle.cf_code.specs.declared.code.Placed.{Placed}
use Rattle.cf_code.specs.Instr.{spelling, Fits}

-- the bytes of an instruction where it stands
abbrev pub placed_spelling : Placed → List ℕ
placed_spelling placed = spelling placed.pc placed.instr

-- the bytes of instructions, one after the other
abbrev pub code_spelling : List Placed → List ℕ
code_spelling code = flat_map placed_spelling code

-- an instruction has a spelling where it stands
abbrev pub FitsPlaced : Placed → Type 0
FitsPlaced placed = Fits placed.pc placed.instr

-- each instruction has a spelling where it stands
abbrev pub AllFit : List Placed → Type 0
AllFit code = AllByRecursion FitsPlaced code
