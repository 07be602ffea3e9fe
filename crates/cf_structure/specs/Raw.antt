-- What a class file holds behind its constant pool, by indices into the pool (JVM Specification SE 8, 4.1, 4.5 to 4.7).
use Rattle.std.specs.Prelude.{ℕ, List}
use Rattle.cf_pool.specs.declared.entry.PoolEntry.{PoolEntry}
use Rattle.cf_structure.specs.declared.code.Row.{Row}
use Rattle.cf_structure.specs.declared.class_file.Version.{Version}

-- an attribute whose content is passed over (4.7.1), by the index of its name
pub record RawSkipped : Type 0 where
  pub name : ℕ
  pub content : List ℕ

-- the content of a Code attribute (4.7.3), with the bytes of its code
pub record RawCode : Type 0 where
  pub max_stack : ℕ
  pub max_locals : ℕ
  pub code : List ℕ
  pub rows : List Row
  pub attributes : List RawSkipped

-- the content of an attribute: the index of a ConstantValue (4.7.2), a Code, or bytes that are passed over
pub data RawBody : Type 0 where
  constant : ℕ → RawBody
  code : RawCode → RawBody
  skipped : List ℕ → RawBody

-- an attribute of a class, a field or a method (4.7)
pub record RawAttribute : Type 0 where
  pub name : ℕ
  pub body : RawBody

-- a field or a method (4.5, 4.6)
pub record RawMember : Type 0 where
  pub flags : ℕ
  pub name : ℕ
  pub desc : ℕ
  pub attributes : List RawAttribute

-- what stands behind the pool (4.1)
pub record RawClass : Type 0 where
  pub flags : ℕ
  pub this_class : ℕ
  pub super_class : ℕ
  pub interfaces : List ℕ
  pub fields : List RawMember
  pub methods : List RawMember
  pub attributes : List RawAttribute

-- a class file; the pool has what stands at each index, 0 too
pub record RawFile : Type 0 where
  pub version : Version
  pub pool : List PoolEntry
  pub class : RawClass
