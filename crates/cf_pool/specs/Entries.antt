-- Entries that fit their fields, and at which indices of a pool they stand (JVM Specification SE 8, 4.1 and 4.4).
use Rattle.std.specs.Prelude.{◌≡◌, ℕ, ◌^◌, ◌<◌, List, [], ◌∷◌, length, All}
use Rattle.std.specs.List.{flat_map}
use Rattle.std.specs.Int.{w32, w64}
use Rattle.std.specs.Prelude.{FitsSigned}
use Rattle.cf_pool.specs.declared.entry.PoolEntry.{PoolEntry}
use Rattle.cf_pool.specs.declared.entry.PoolEntry.TheVariants.{Utf8, Integer, Float, Long, Double, Class, Str, Field, Method, InterfaceMethod, NameAndType, MethodHandle, MethodType, InvokeDynamic, Unusable}
use Rattle.cf_pool.specs.ModifiedUtf8.{IsUnit, encoded_units}

-- a number of two bytes
abbrev pub IsIndex : ℕ → Type 0
IsIndex n = n < 2 ^ 16

-- an entry that has a spelling: each part fits its bytes
abbrev pub IsPoolEntry : PoolEntry → Type 0
IsPoolEntry (Utf8 units) = All IsUnit units × (length (encoded_units units) < 2 ^ 16)
IsPoolEntry (Integer n) = FitsSigned w32 n
IsPoolEntry (Float bits) = bits < 2 ^ 32
IsPoolEntry (Long n) = FitsSigned w64 n
IsPoolEntry (Double bits) = bits < 2 ^ 64
IsPoolEntry (Class name) = IsIndex name
IsPoolEntry (Str text) = IsIndex text
IsPoolEntry (Field class name_and_type) = IsIndex class × IsIndex name_and_type
IsPoolEntry (Method class name_and_type) = IsIndex class × IsIndex name_and_type
IsPoolEntry (InterfaceMethod class name_and_type) = IsIndex class × IsIndex name_and_type
IsPoolEntry (NameAndType name descriptor) = IsIndex name × IsIndex descriptor
IsPoolEntry (MethodHandle kind index) = (kind < 2 ^ 8) × IsIndex index
IsPoolEntry (MethodType descriptor) = IsIndex descriptor
IsPoolEntry (InvokeDynamic bootstrap name_and_type) = IsIndex bootstrap × IsIndex name_and_type
IsPoolEntry Unusable = ⊥

-- what an entry puts at the indices that it takes: a Long and a Double take two, and the second is unusable (4.4.5)
abbrev pub slots : PoolEntry → List PoolEntry
slots (Long n) = Long n ∷ Unusable ∷ []
slots (Double bits) = Double bits ∷ Unusable ∷ []
slots entry = entry ∷ []

-- A pool has these entries: nothing stands at index 0, and then they stand in order. With a count of 0 there is no index.
abbrev pub IsLaidOut : List PoolEntry → List PoolEntry → Type 0
IsLaidOut [] entries = entries ≡ []
IsLaidOut (first ∷ indices) entries = (first ≡ Unusable) × (indices ≡ flat_map slots entries)
