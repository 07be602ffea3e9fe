-- The class file that bytes are, by what stands in them (JVM Specification SE 8, 4.1, 4.5 to 4.7): each index with the name that it
-- stands for, and each Code with its instructions.
use Rattle.std.specs.Prelude.{◌≡◌, ℕ, List, map}
use Rattle.std.specs.List.{AllZip}
use Rattle.cf_pool.specs.Laws.{IsBytes}
use Rattle.cf_pool.specs.declared.entry.PoolEntry.{PoolEntry}
use Rattle.cf_structure.specs.declared.code.Row as structure
use Rattle.cf_structure.specs.Raw.{RawSkipped, RawCode, RawBody, constant, code, skipped, RawAttribute, RawMember, RawFile}
use Rattle.cf_judge.specs.Forms.{IsNameOf, HasText}
use Rattle.cf_judge.specs.Indices.{HasClass}
use Rattle.cf_code.specs.declared.transfer.Row.{Row}
use Rattle.cf_code.specs.Decoding.{IsCode}
use Rattle.cf_bodies.specs.Passes.{IsInOrder}
use Rattle.cf_class.specs.declared.named.Named.{Named}
use Rattle.cf_class.specs.declared.code.Skipped.{Skipped}
use Rattle.cf_class.specs.declared.code.Code.{Code}
use Rattle.cf_class.specs.declared.attribute.Body.{Body}
use Rattle.cf_class.specs.declared.attribute.Body.TheVariants as bodies
use Rattle.cf_class.specs.declared.attribute.Attribute.{Attribute}
use Rattle.cf_class.specs.declared.member.Member.{Member}
use Rattle.cf_class.specs.declared.class_file.ClassFile.{ClassFile}

-- the index, with the name that is the text at it (4.4.7)
pub record IsTextNamed (pool : List PoolEntry) (raw : ℕ) (n : Named) : Type 0 where
  pub index_is : n.index ≡ raw
  pub units : List ℕ
  pub text : HasText pool raw units
  pub name : IsNameOf units n.name

-- the index, with the name of the class at it (4.4.1)
pub record IsClassNamed (pool : List PoolEntry) (raw : ℕ) (n : Named) : Type 0 where
  pub index_is : n.index ≡ raw
  pub name_index : ℕ
  pub class : HasClass pool raw name_index
  pub units : List ℕ
  pub text : HasText pool name_index units
  pub name : IsNameOf units n.name

-- an attribute of a Code
pub record IsSkippedContent (pool : List PoolEntry) (raw : RawSkipped) (s : Skipped) : Type 0 where
  pub name : IsTextNamed pool raw.name s.name
  pub content : s.content ≡ raw.content

-- a row of an exception table, of the type that tells what can follow what
abbrev pub row_of : structure.Row → Row
row_of r = record { start = r.start; end = r.end; handler = r.handler; catch_type = r.catch_type }

-- a Code (4.7.3): its bytes are the instructions
pub record IsCodeContent (pool : List PoolEntry) (raw : RawCode) (c : Code) : Type 0 where
  pub max_stack : c.max_stack ≡ raw.max_stack
  pub max_locals : c.max_locals ≡ raw.max_locals
  pub code : IsCode raw.code c.code
  pub rows : c.rows ≡ map row_of raw.rows
  pub attributes : AllZip (IsSkippedContent pool) raw.attributes c.attributes

abbrev pub IsBodyContent : List PoolEntry → RawBody → Body → Type 0
IsBodyContent pool (constant index) (bodies.Constant found) = found ≡ index
IsBodyContent pool (code raw) (bodies.Code c) = IsCodeContent pool raw c
IsBodyContent pool (skipped raw) (bodies.Skipped content) = content ≡ raw
IsBodyContent pool raw body = ⊥

pub record IsAttributeContent (pool : List PoolEntry) (raw : RawAttribute) (a : Attribute) : Type 0 where
  pub name : IsTextNamed pool raw.name a.name
  pub body : IsBodyContent pool raw.body a.body

-- a field or a method (4.5, 4.6)
pub record IsMemberContent (pool : List PoolEntry) (raw : RawMember) (m : Member) : Type 0 where
  pub flags : m.flags ≡ raw.flags
  pub name : IsTextNamed pool raw.name m.name
  pub desc : IsTextNamed pool raw.desc m.desc
  pub attributes : AllZip (IsAttributeContent pool) raw.attributes m.attributes

-- a class file (4.1)
pub record IsContent (file : RawFile) (c : ClassFile) : Type 0 where
  pub minor : c.minor ≡ file.version.minor
  pub major : c.major ≡ file.version.major
  pub entries : c.pool.entries ≡ file.pool
  pub flags : c.flags ≡ file.class.flags
  pub this_class : IsClassNamed file.pool file.class.this_class c.this_class
  pub super_class : IsClassNamed file.pool file.class.super_class c.super_class
  pub interfaces : AllZip (IsClassNamed file.pool) file.class.interfaces c.interfaces
  pub fields : AllZip (IsMemberContent file.pool) file.class.fields c.fields
  pub methods : AllZip (IsMemberContent file.pool) file.class.methods c.methods
  pub attributes : AllZip (IsAttributeContent file.pool) file.class.attributes c.attributes

-- the bytes are this class file
pub record IsClass (bytes : List ℕ) (c : ClassFile) : Type 0 where
  pub file : RawFile
  pub in_order : IsInOrder bytes file
  pub content : IsContent file c

-- some file is this class
abbrev pub HasFile : ClassFile → Type 0
HasFile c = (bytes : List ℕ) × IsBytes bytes × IsClass bytes c
