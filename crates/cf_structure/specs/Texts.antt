-- Texts of the constant pool, by their indices (JVM Specification SE 8, 4.4.7).
use Rattle.std.specs.Prelude.{ℕ, Bool, false, List, slice_get}
use Rattle.std.specs.Option.{option_map_or}
use Rattle.std.specs.Str.{bytes_eq}
use Rattle.cf_pool.specs.declared.entry.PoolEntry.{PoolEntry}
use Rattle.cf_pool.specs.declared.entry.PoolEntry.TheVariants.{Utf8}

-- whether an entry is the text with these units
abbrev pub is_text : List ℕ → PoolEntry → Bool
is_text units (Utf8 found) = bytes_eq found units
is_text units entry = false

-- whether the text with these units stands at an index
unfoldable pub has_text : List PoolEntry → ℕ → List ℕ → Bool
has_text pool index units = option_map_or (is_text units) (slice_get pool index) false
