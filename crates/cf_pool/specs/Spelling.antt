-- The spelling of an entry and of a pool (JVM Specification SE 8, 4.1 and 4.4): numbers have their most significant byte first.
use Rattle.std.specs.Prelude.{ℕ, List, [], ◌∷◌, ◌++◌, length}
use Rattle.std.specs.List.{flat_map}
use Rattle.std.specs.Int.{w16, w32, w64, to_be_bytes, cast_unsigned}
use Rattle.cf_pool.specs.declared.entry.PoolEntry.{PoolEntry}
use Rattle.cf_pool.specs.declared.entry.PoolEntry.TheVariants.{Utf8, Integer, Float, Long, Double, Class, Str, Field, Method, InterfaceMethod, NameAndType, MethodHandle, MethodType, InvokeDynamic, Unusable}
use Rattle.cf_pool.specs.ModifiedUtf8.{encoded_units}

-- a number of two bytes
abbrev pub two_bytes : ℕ → List ℕ
two_bytes n = to_be_bytes w16 n

-- a text behind its length in bytes (4.4.7)
abbrev pub text_spelling : List ℕ → List ℕ
text_spelling units = two_bytes (length (encoded_units units)) ++ encoded_units units

-- two indices
abbrev pub pair_spelling : ℕ → ℕ → List ℕ
pair_spelling a b = two_bytes a ++ two_bytes b

-- an entry with its tag; an index that has no entry takes no bytes
abbrev pub entry_text : PoolEntry → List ℕ
entry_text (Utf8 units) = 1 ∷ text_spelling units
entry_text (Integer n) = 3 ∷ to_be_bytes w32 (cast_unsigned w32 n)
entry_text (Float bits) = 4 ∷ to_be_bytes w32 bits
entry_text (Long n) = 5 ∷ to_be_bytes w64 (cast_unsigned w64 n)
entry_text (Double bits) = 6 ∷ to_be_bytes w64 bits
entry_text (Class name) = 7 ∷ two_bytes name
entry_text (Str text) = 8 ∷ two_bytes text
entry_text (Field class name_and_type) = 9 ∷ pair_spelling class name_and_type
entry_text (Method class name_and_type) = 10 ∷ pair_spelling class name_and_type
entry_text (InterfaceMethod class name_and_type) = 11 ∷ pair_spelling class name_and_type
entry_text (NameAndType name descriptor) = 12 ∷ pair_spelling name descriptor
entry_text (MethodHandle kind index) = 15 ∷ kind ∷ two_bytes index
entry_text (MethodType descriptor) = 16 ∷ two_bytes descriptor
entry_text (InvokeDynamic bootstrap name_and_type) = 18 ∷ pair_spelling bootstrap name_and_type
entry_text Unusable = []

-- a pool: how many indices it has, and its entries
abbrev pub pool_text : List PoolEntry → List ℕ
pool_text entries = two_bytes (length entries) ++ flat_map entry_text entries
