-- The bytes of the instructions on local variables (JVM Specification SE 8, 6.5).
use Rattle.std.specs.Prelude.{◌+◌, ◌≤◌, ℕ, List, [], ◌∷◌, ◌++◌}
use Rattle.std.specs.Int.{w8, w16, cast_unsigned}
use Rattle.std.specs.Int.RustNames.{FitsSigned}
use Rattle.cf_code.specs.Bytes.{two, signed_two, IsByte, IsTwo}
use Rattle.cf_code.specs.declared.word.Word.{Word}
use Rattle.cf_code.specs.declared.word.Word.TheVariants.{Int, Long, Float, Double, Reference}
use Rattle.cf_code.specs.declared.local.LocalIndex.{LocalIndex}
use Rattle.cf_code.specs.declared.local.LocalIndex.TheVariants.{Short, Byte, Wide}
use Rattle.cf_code.specs.declared.local.Local.{Local}
use Rattle.cf_code.specs.declared.local.Local.TheVariants.{Load, Store, Iinc, IincWide, Ret, RetWide}

-- iload, lload, fload, dload, aload
abbrev pub load_opcode : Word → ℕ
load_opcode Int = 21
load_opcode Long = 22
load_opcode Float = 23
load_opcode Double = 24
load_opcode Reference = 25

-- iload_0, lload_0, fload_0, dload_0, aload_0
abbrev pub load_first : Word → ℕ
load_first Int = 26
load_first Long = 30
load_first Float = 34
load_first Double = 38
load_first Reference = 42

-- istore, lstore, fstore, dstore, astore
abbrev pub store_opcode : Word → ℕ
store_opcode Int = 54
store_opcode Long = 55
store_opcode Float = 56
store_opcode Double = 57
store_opcode Reference = 58

-- istore_0, lstore_0, fstore_0, dstore_0, astore_0
abbrev pub store_first : Word → ℕ
store_first Int = 59
store_first Long = 63
store_first Float = 67
store_first Double = 71
store_first Reference = 75

-- an access whose short forms begin at one opcode, and whose other forms have another
abbrev pub access_spelling : ℕ → ℕ → LocalIndex → List ℕ
access_spelling first opcode (Short n) = (first + n) ∷ []
access_spelling first opcode (Byte n) = opcode ∷ n ∷ []
access_spelling first opcode (Wide n) = 196 ∷ opcode ∷ two n

-- a load, or a load behind wide
abbrev pub load_spelling : Word → LocalIndex → List ℕ
load_spelling word index = access_spelling (load_first word) (load_opcode word) index

-- a store, or a store behind wide
abbrev pub store_spelling : Word → LocalIndex → List ℕ
store_spelling word index = access_spelling (store_first word) (store_opcode word) index

-- loads, stores, iinc and ret, each with its forms
abbrev pub local_spelling : Local → List ℕ
local_spelling (Load word index) = load_spelling word index
local_spelling (Store word index) = store_spelling word index
local_spelling (Iinc n z) = 132 ∷ n ∷ cast_unsigned w8 z ∷ []
local_spelling (IincWide n z) = 196 ∷ 132 ∷ two n ++ signed_two z
local_spelling (Ret n) = 169 ∷ n ∷ []
local_spelling (RetWide n) = 196 ∷ 169 ∷ two n

-- the indices of each form
abbrev pub FitsIndex : LocalIndex → Type 0
FitsIndex (Short n) = n ≤ 3
FitsIndex (Byte n) = IsByte n
FitsIndex (Wide n) = IsTwo n

-- what has a spelling
abbrev pub FitsLocal : Local → Type 0
FitsLocal (Load word index) = FitsIndex index
FitsLocal (Store word index) = FitsIndex index
FitsLocal (Iinc n z) = IsByte n × FitsSigned w8 z
FitsLocal (IincWide n z) = IsTwo n × FitsSigned w16 z
FitsLocal (Ret n) = IsByte n
FitsLocal (RetWide n) = IsTwo n
