-- The constant pool in a class file, from its count at place 8 on, and its first fault from the left (JVM Specification SE 8, 4.1 and 4.4).
use Rattle.std.specs.Prelude.{◌≡◌, ℕ, ◌+◌, ◌^◌, ◌<◌, ◌≤◌, List, [], ◌∷◌, ◌++◌, length, All, ◌⊎◌}
use Rattle.std.specs.List.{flat_map}
use Rattle.cf_pool.specs.declared.entry.PoolEntry.{PoolEntry}
use Rattle.cf_pool.specs.declared.tag.Tag.{Tag}
use Rattle.cf_pool.specs.declared.tag.Tag.TheVariants as tags
use Rattle.cf_pool.specs.declared.fault.What.{What}
use Rattle.cf_pool.specs.declared.fault.What.TheVariants.{Truncated, BadTag, BadUtf8}
use Rattle.cf_pool.specs.declared.fault.Fault.{Fault}
use Rattle.cf_pool.specs.declared.fault.PoolFault.{PoolFault}
use Rattle.cf_pool.specs.declared.fault.PoolFault.TheVariants.{Malformed, NoMemory}
use Rattle.cf_pool.specs.ModifiedUtf8.{IsBadUnit}
use Rattle.cf_pool.specs.Tags.{tag_byte, indices, content_size}
use Rattle.cf_pool.specs.Spelling.{two_bytes, entry_text, pool_text}
use Rattle.cf_pool.specs.Entries.{IsPoolEntry, slots, IsLaidOut}

-- The pool of these bytes, with what stands at each index, and the place after it. What stands before place 8 and behind the pool is not looked at.
pub record IsPool (bytes : List ℕ) (pool : List PoolEntry) (place : ℕ) : Type 0 where
  pub head : List ℕ
  pub entries : List PoolEntry
  pub rest : List ℕ
  pub head_is : length head ≡ 8
  pub entries_fit : All IsPoolEntry entries
  pub laid_out : IsLaidOut pool entries
  pub count_fits : length pool < 2 ^ 16
  pub parts : bytes ≡ head ++ (pool_text pool ++ rest)
  pub place_is : place ≡ 8 + length (pool_text pool)

-- no entry that finds room at the indices that are left has the tag that the bytes begin with
pub record HasBadTag (left : ℕ) (bytes : List ℕ) : Type 0 where
  pub byte : ℕ
  pub content : List ℕ
  pub parts : bytes ≡ byte ∷ content
  pub none : (t : Tag) → tag_byte t ≡ byte → left < indices t

-- the bytes end inside an entry: they have no tag, or an entry with that tag finds room and has more bytes
abbrev pub IsCut : ℕ → List ℕ → Type 0
IsCut left [] = Unit {0}
IsCut left (byte ∷ content) = (t : Tag) × (tag_byte t ≡ byte) × (indices t ≤ left) × (length content < content_size t content)

-- the bytes begin with a text whose units have a fault, at that place counted from the tag
pub record HasBadText (bytes : List ℕ) (at : ℕ) : Type 0 where
  pub text : List ℕ
  pub rest : List ℕ
  pub place : ℕ
  pub text_fits : length text < 2 ^ 16
  pub parts : bytes ≡ tag_byte tags.Utf8 ∷ (two_bytes (length text) ++ (text ++ rest))
  pub bad_unit : IsBadUnit text place
  pub at_is : at ≡ 3 + place

-- The fault of the bytes where an entry should begin, with so many indices left. Its place is counted from there.
abbrev pub IsEntryFault : ℕ → List ℕ → What → ℕ → Type 0
IsEntryFault left bytes BadTag at = HasBadTag left bytes × (at ≡ 0)
IsEntryFault left bytes Truncated at = IsCut left bytes × (at ≡ length bytes)
IsEntryFault left bytes BadUtf8 at = HasBadText bytes at
IsEntryFault left bytes what at = ⊥

-- The first fault of the pool is where an entry should begin: whole entries stand before it, and some index is left.
pub record IsFaultOfEntry (bytes : List ℕ) (fault : Fault) : Type 0 where
  pub head : List ℕ
  pub count : ℕ
  pub entries : List PoolEntry
  pub rest : List ℕ
  pub left : ℕ
  pub at : ℕ
  pub head_is : length head ≡ 8
  pub count_fits : count < 2 ^ 16
  pub entries_fit : All IsPoolEntry entries
  pub parts : bytes ≡ head ++ (two_bytes count ++ (flat_map entry_text entries ++ rest))
  pub indices_left : 1 + length (flat_map slots entries) + left ≡ count
  pub some_left : 0 < left
  pub entry_fault : IsEntryFault left rest fault.what at
  pub place_is : fault.place ≡ 10 + length (flat_map entry_text entries) + at

-- the bytes end before the count does
pub record EndsBeforePool (bytes : List ℕ) (fault : Fault) : Type 0 where
  pub short : length bytes < 10
  pub what_is : fault.what ≡ Truncated
  pub place_is : fault.place ≡ length bytes

-- the first fault of the pool
abbrev pub IsPoolFault : List ℕ → Fault → Type 0
IsPoolFault bytes fault = EndsBeforePool bytes fault ⊎ IsFaultOfEntry bytes fault

-- a refusal names a fault of that kind, unless memory ran out
abbrev pub Names : (Fault → Type 0) → PoolFault → Type 0
Names P (Malformed fault) = P fault
Names P NoMemory = Unit {0}

-- the fault of a text: its first unit that is not spelled as it must be
abbrev pub IsTextFault : List ℕ → Fault → Type 0
IsTextFault text fault = (fault.what ≡ BadUtf8) × IsBadUnit text fault.place
