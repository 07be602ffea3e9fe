-- What holds of the definitions: exactly one of structure and fault stands for each file, and a file with a structure is
-- its spelling.
use Rattle.std.specs.Prelude.{◌≡◌, ◌↔◌, ℕ, ◌<◌, List, length, take}
use Rattle.cf_pool.specs.declared.fault.What.TheVariants.{Extra}
use Rattle.cf_pool.specs.Laws.{ExactlyOne, IsBytes}
use Rattle.cf_structure.specs.Raw.{RawFile}
use Rattle.cf_structure.specs.Spelled.{file_text, FitsFile}
use Rattle.cf_structure.specs.ClassFile.{IsStructure, IsStructureFault}

-- a file has a structure, or its first fault
abbrev pub OneStructure : Type 0
OneStructure = (bytes : List ℕ) → IsBytes bytes → ExactlyOne (IsStructure bytes) (IsStructureFault bytes)

-- bytes have a structure just where they are its spelling, and each part of it fits its field
abbrev pub Spelled : Type 0
Spelled = (bytes : List ℕ) (file : RawFile) → IsBytes bytes
    → IsStructure bytes file ↔ (FitsFile file × (bytes ≡ file_text file))

-- the first fault of bytes is Extra just where they begin with a class file and go on behind it: its place is that file's end
abbrev pub ExtraBytes : Type 0
ExtraBytes = (bytes : List ℕ) (place : ℕ) → IsBytes bytes
    → IsStructureFault bytes (record { place = place; what = Extra })
    ↔ ((place < length bytes) × ((file : RawFile) × IsStructure (take place bytes) file))
