-- The bytes of a class file (JVM Specification SE 8, 4.1, 4.5 to 4.7): numbers have their most significant byte first.
use Rattle.std.specs.Prelude.{ℕ, ◌^◌, ◌<◌, ◌≤◌, List, ◌++◌, length, All}
use Rattle.std.specs.List.{flat_map, AllByRecursion}
use Rattle.std.specs.Int.{w16, w32, to_be_bytes}
use Rattle.cf_pool.specs.declared.entry.PoolEntry.{PoolEntry}
use Rattle.cf_pool.specs.Spelling.{pool_text}
use Rattle.cf_pool.specs.Entries.{IsPoolEntry, IsLaidOut}
use Rattle.cf_structure.specs.declared.code.Row.{Row}
use Rattle.cf_structure.specs.declared.attribute.Holder.{Holder}
use Rattle.cf_structure.specs.declared.attribute.Holder.TheVariants.{InClass, InField, InMethod}
use Rattle.cf_structure.specs.declared.attribute.BodyKind.{BodyKind}
use Rattle.cf_structure.specs.declared.attribute.BodyKind.TheVariants.{ConstantValue, Code, Other}
use Rattle.cf_structure.specs.declared.class_file.Version.{Version}
use Rattle.cf_structure.specs.Raw.{RawSkipped, RawCode, RawBody, constant, code, skipped, RawAttribute, RawMember}
use Rattle.cf_structure.specs.Raw.{RawClass, RawFile}
use Rattle.cf_structure.specs.Structure.{body_kind}

-- a number of two bytes, and one of four
abbrev pub two : ℕ → List ℕ
two n = to_be_bytes w16 n

abbrev pub four : ℕ → List ℕ
four n = to_be_bytes w32 n

-- a count, and so many
abbrev pub counted_text : {A : Type 0} → (A → List ℕ) → List A → List ℕ
counted_text one xs = two (length xs) ++ flat_map one xs

-- a length, and so many bytes
abbrev pub sized_text : List ℕ → List ℕ
sized_text content = four (length content) ++ content

abbrev pub row_text : Row → List ℕ
row_text r = two r.start ++ (two r.end ++ (two r.handler ++ two r.catch_type))

abbrev pub skipped_text : RawSkipped → List ℕ
skipped_text s = two s.name ++ sized_text s.content

abbrev pub code_text : RawCode → List ℕ
code_text c =
    two c.max_stack ++ (two c.max_locals ++ (sized_text c.code ++ (counted_text row_text c.rows
    ++ counted_text skipped_text c.attributes)))

abbrev pub body_text : RawBody → List ℕ
body_text (constant index) = two index
body_text (code c) = code_text c
body_text (skipped content) = content

abbrev pub attribute_text : RawAttribute → List ℕ
attribute_text a = two a.name ++ sized_text (body_text a.body)

abbrev pub member_text : RawMember → List ℕ
member_text m = two m.flags ++ (two m.name ++ (two m.desc ++ counted_text attribute_text m.attributes))

abbrev pub class_text : RawClass → List ℕ
class_text c =
    two c.flags ++ (two c.this_class ++ (two c.super_class ++ (counted_text two c.interfaces
    ++ (counted_text member_text c.fields ++ (counted_text member_text c.methods
    ++ counted_text attribute_text c.attributes)))))

abbrev pub version_text : Version → List ℕ
version_text v = four 0xcafebabe ++ (two v.minor ++ two v.major)

abbrev pub file_text : RawFile → List ℕ
file_text f = version_text f.version ++ (pool_text f.pool ++ class_text f.class)

-- ---- what has such bytes

abbrev pub IsTwo : ℕ → Type 0
IsTwo n = n < 2 ^ 16

abbrev pub AreFew : {A : Type 0} → (A → Type 0) → List A → Type 0
AreFew Fits xs = (length xs < 2 ^ 16) × AllByRecursion Fits xs

pub record FitsRow (r : Row) : Type 0 where
  pub start : IsTwo r.start
  pub end : IsTwo r.end
  pub handler : IsTwo r.handler
  pub catch_type : IsTwo r.catch_type

pub record FitsSkipped (s : RawSkipped) : Type 0 where
  pub name : IsTwo s.name
  pub content : length s.content < 2 ^ 32

-- a Code has from 1 to 65535 bytes of code
pub record FitsCode (c : RawCode) : Type 0 where
  pub max_stack : IsTwo c.max_stack
  pub max_locals : IsTwo c.max_locals
  pub some : 0 < length c.code
  pub code : IsTwo (length c.code)
  pub rows : AreFew FitsRow c.rows
  pub attributes : AreFew FitsSkipped c.attributes

-- a content of that kind
abbrev pub FitsBody : BodyKind → RawBody → Type 0
FitsBody ConstantValue (constant index) = IsTwo index
FitsBody Code (code c) = FitsCode c
FitsBody Other (skipped content) = Unit {0}
FitsBody kind body = ⊥

pub record FitsAttribute (place : Holder) (pool : List PoolEntry) (a : RawAttribute) : Type 0 where
  pub name : IsTwo a.name
  pub body : FitsBody (body_kind place pool a.name) a.body
  pub content : length (body_text a.body) < 2 ^ 32

pub record FitsMember (place : Holder) (pool : List PoolEntry) (m : RawMember) : Type 0 where
  pub flags : IsTwo m.flags
  pub name : IsTwo m.name
  pub desc : IsTwo m.desc
  pub attributes : AreFew (FitsAttribute place pool) m.attributes

pub record FitsClass (pool : List PoolEntry) (c : RawClass) : Type 0 where
  pub flags : IsTwo c.flags
  pub this_class : IsTwo c.this_class
  pub super_class : IsTwo c.super_class
  pub interfaces : AreFew IsTwo c.interfaces
  pub fields : AreFew (FitsMember InField pool) c.fields
  pub methods : AreFew (FitsMember InMethod pool) c.methods
  pub attributes : AreFew (FitsAttribute InClass pool) c.attributes

pub record FitsVersion (v : Version) : Type 0 where
  pub minor : IsTwo v.minor
  pub first : 45 ≤ v.major
  pub last : v.major ≤ 52

-- the pool of some entries
pub record FitsPool (pool : List PoolEntry) : Type 0 where
  pub entries : List PoolEntry
  pub entries_fit : All IsPoolEntry entries
  pub laid_out : IsLaidOut pool entries
  pub count : IsTwo (length pool)

pub record FitsFile (f : RawFile) : Type 0 where
  pub version : FitsVersion f.version
  pub pool : FitsPool f.pool
  pub class : FitsClass f.pool f.class
