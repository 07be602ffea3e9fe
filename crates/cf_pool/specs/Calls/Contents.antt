-- What private functions of the reader give: an entry whose content is numbers, and the places of faults in parts of the bytes.
use Rattle.std.specs.Prelude.{◌≡◌, ℕ, ◌+◌, ◌<◌, List, ◌++◌, drop, length, All, Option, Some, None, slice_index}
use Rattle.std.specs.List.{flat_map}
use Rattle.std.specs.Int.{w32, w64, cast_signed}
use Rattle.byteorder.specs.Endian.{big_number}
use Rattle.cf_pool.specs.declared.entry.PoolEntry.{PoolEntry}
use Rattle.cf_pool.specs.declared.entry.PoolEntry.TheVariants as entries
use Rattle.cf_pool.specs.declared.tag.Tag.{Tag}
use Rattle.cf_pool.specs.declared.tag.Tag.TheVariants.{Utf8, Integer, Float, Long, Double, Class, Str, Field, Method, InterfaceMethod, NameAndType, MethodHandle, MethodType, InvokeDynamic}
use Rattle.cf_pool.specs.declared.fault.What.TheVariants.{BadUtf8}
use Rattle.cf_pool.specs.declared.fault.Fault.{Fault}
use Rattle.cf_pool.specs.declared.fault.PoolFault.{PoolFault}
use Rattle.cf_pool.specs.declared.fault.PoolFault.TheVariants.{Malformed, NoMemory}
use Rattle.cf_pool.specs.ModifiedUtf8.{IsBadUnit}
use Rattle.cf_pool.specs.Spelling.{entry_text}
use Rattle.cf_pool.specs.Entries.{IsPoolEntry, slots, IsLaidOut}
use Rattle.cf_pool.specs.ConstantPool.{IsEntryFault}

-- the entry that a tag and its content make, where the content is numbers alone
abbrev pub numbers_entry : Tag → List ℕ → Option PoolEntry
numbers_entry Utf8 content = None
numbers_entry Integer content = Some (entries.Integer (cast_signed w32 (big_number 4 content)))
numbers_entry Float content = Some (entries.Float (big_number 4 content))
numbers_entry Long content = Some (entries.Long (cast_signed w64 (big_number 8 content)))
numbers_entry Double content = Some (entries.Double (big_number 8 content))
numbers_entry Class content = Some (entries.Class (big_number 2 content))
numbers_entry Str content = Some (entries.Str (big_number 2 content))
numbers_entry Field content = Some (entries.Field (big_number 2 content) (big_number 2 (drop 2 content)))
numbers_entry Method content = Some (entries.Method (big_number 2 content) (big_number 2 (drop 2 content)))
numbers_entry InterfaceMethod content = Some (entries.InterfaceMethod (big_number 2 content) (big_number 2 (drop 2 content)))
numbers_entry NameAndType content = Some (entries.NameAndType (big_number 2 content) (big_number 2 (drop 2 content)))
numbers_entry MethodHandle content = Some (entries.MethodHandle (slice_index content 0) (big_number 2 (drop 1 content)))
numbers_entry MethodType content = Some (entries.MethodType (big_number 2 content))
numbers_entry InvokeDynamic content = Some (entries.InvokeDynamic (big_number 2 content) (big_number 2 (drop 2 content)))

-- the fault of a text behind its length, by its place counted from the tag
pub record IsFaultOfContent (content : List ℕ) (fault : Fault) : Type 0 where
  pub place : ℕ
  pub what_is : fault.what ≡ BadUtf8
  pub bad_unit : IsBadUnit (drop 2 content) place
  pub place_is : fault.place ≡ 3 + place

-- the same fault of bytes that have so many more in front
abbrev pub later : ℕ → PoolFault → PoolFault
later by (Malformed fault) = Malformed (record { place = fault.place + by; what = fault.what })
later by NoMemory = NoMemory

-- the bytes begin with the entries of a pool with that count
pub record ReadsEntries (count : ℕ) (bytes : List ℕ) (pool : List PoolEntry) (rest : List ℕ) : Type 0 where
  pub entries : List PoolEntry
  pub entries_fit : All IsPoolEntry entries
  pub laid_out : IsLaidOut pool entries
  pub count_is : length pool ≡ count
  pub parts : bytes ≡ flat_map entry_text entries ++ rest

-- the first fault of the entries of a pool with that count, by its place counted from the first entry
pub record IsFaultOfEntries (count : ℕ) (bytes : List ℕ) (fault : Fault) : Type 0 where
  pub entries : List PoolEntry
  pub rest : List ℕ
  pub left : ℕ
  pub at : ℕ
  pub entries_fit : All IsPoolEntry entries
  pub parts : bytes ≡ flat_map entry_text entries ++ rest
  pub indices_left : 1 + length (flat_map slots entries) + left ≡ count
  pub some_left : 0 < left
  pub entry_fault : IsEntryFault left rest fault.what at
  pub place_is : fault.place ≡ length (flat_map entry_text entries) + at
