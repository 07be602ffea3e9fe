-- The bytes of the instructions on arrays (JVM Specification SE 8, 6.5).
use Rattle.std.specs.Prelude.{ℕ, List, [], ◌∷◌, ◌++◌}
use Rattle.cf_code.specs.Bytes.{two, IsByte, IsTwo}
use Rattle.cf_code.specs.declared.array.Element.{Element}
use Rattle.cf_code.specs.declared.array.Element.TheVariants.{Int, Long, Float, Double, Reference, Byte, Char, Short}
use Rattle.cf_code.specs.declared.array.Array.{Array}
use Rattle.cf_code.specs.declared.array.Array.TheVariants.{Load, Store, New, NewOf, NewMany, Length}

-- iaload, laload, faload, daload, aaload, baload, caload, saload
abbrev pub array_load_opcode : Element → ℕ
array_load_opcode Int = 46
array_load_opcode Long = 47
array_load_opcode Float = 48
array_load_opcode Double = 49
array_load_opcode Reference = 50
array_load_opcode Byte = 51
array_load_opcode Char = 52
array_load_opcode Short = 53

-- iastore, lastore, fastore, dastore, aastore, bastore, castore, sastore
abbrev pub array_store_opcode : Element → ℕ
array_store_opcode Int = 79
array_store_opcode Long = 80
array_store_opcode Float = 81
array_store_opcode Double = 82
array_store_opcode Reference = 83
array_store_opcode Byte = 84
array_store_opcode Char = 85
array_store_opcode Short = 86

-- loads, stores, newarray, anewarray, multianewarray, arraylength
abbrev pub array_spelling : Array → List ℕ
array_spelling (Load element) = array_load_opcode element ∷ []
array_spelling (Store element) = array_store_opcode element ∷ []
array_spelling (New code) = 188 ∷ code ∷ []
array_spelling (NewOf index) = 189 ∷ two index
array_spelling (NewMany index dimensions) = 197 ∷ two index ++ dimensions ∷ []
array_spelling Length = 190 ∷ []

-- what has a spelling
abbrev pub FitsArray : Array → Type 0
FitsArray (Load element) = Unit {0}
FitsArray (Store element) = Unit {0}
FitsArray (New code) = IsByte code
FitsArray (NewOf index) = IsTwo index
FitsArray (NewMany index dimensions) = IsTwo index × IsByte dimensions
FitsArray Length = Unit {0}
