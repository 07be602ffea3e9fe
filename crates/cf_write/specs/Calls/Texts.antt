-- The bytes of a class file and of its parts, by the indices that they keep, and what they ask for: code that has a spelling.
use Rattle.std.specs.Prelude.{ℕ, List, ◌++◌}
use Rattle.std.specs.List.{AllByRecursion}
use Rattle.cf_pool.specs.Spelling.{pool_text}
use Rattle.cf_structure.specs.Spelled.{two, four, counted_text, sized_text}
use Rattle.cf_code.specs.declared.transfer.Row.{Row}
use Rattle.cf_code.specs.Code.{code_spelling, AllFit}
use Rattle.cf_class.specs.declared.named.Named.{Named}
use Rattle.cf_class.specs.declared.code.Skipped.{Skipped}
use Rattle.cf_class.specs.declared.code.Code.{Code}
use Rattle.cf_class.specs.declared.attribute.Body.{Body}
use Rattle.cf_class.specs.declared.attribute.Body.TheVariants as bodies
use Rattle.cf_class.specs.declared.attribute.Attribute.{Attribute}
use Rattle.cf_class.specs.declared.member.Member.{Member}
use Rattle.cf_class.specs.declared.class_file.ClassFile.{ClassFile}

abbrev pub named_text : Named → List ℕ
named_text n = two n.index

abbrev pub row_text : Row → List ℕ
row_text r = two r.start ++ (two r.end ++ (two r.handler ++ two r.catch_type))

abbrev pub skipped_text : Skipped → List ℕ
skipped_text s = named_text s.name ++ sized_text s.content

-- what stands before the exception table
abbrev pub code_front : Code → List ℕ
code_front c = two c.max_stack ++ (two c.max_locals ++ sized_text (code_spelling c.code))

abbrev pub code_text : Code → List ℕ
code_text c = code_front c ++ (counted_text row_text c.rows ++ counted_text skipped_text c.attributes)

abbrev pub body_text : Body → List ℕ
body_text (bodies.Constant index) = two index
body_text (bodies.Code c) = code_text c
body_text (bodies.Skipped content) = content

abbrev pub attribute_text : Attribute → List ℕ
attribute_text a = named_text a.name ++ sized_text (body_text a.body)

abbrev pub member_text : Member → List ℕ
member_text m =
    two m.flags ++ (named_text m.name ++ (named_text m.desc ++ counted_text attribute_text m.attributes))

abbrev pub version_text : ClassFile → List ℕ
version_text c = four 0xcafebabe ++ (two c.minor ++ two c.major)

abbrev pub names_text : ClassFile → List ℕ
names_text c =
    two c.flags ++ (named_text c.this_class ++ (named_text c.super_class ++ counted_text named_text c.interfaces))

abbrev pub members_text : ClassFile → List ℕ
members_text c =
    counted_text member_text c.fields ++ (counted_text member_text c.methods
    ++ counted_text attribute_text c.attributes)

abbrev pub file_text : ClassFile → List ℕ
file_text c = version_text c ++ (pool_text c.pool.entries ++ (names_text c ++ members_text c))

-- ---- what has such bytes

abbrev pub BodyFits : Body → Type 0
BodyFits (bodies.Constant index) = Unit {0}
BodyFits (bodies.Code c) = AllFit c.code
BodyFits (bodies.Skipped content) = Unit {0}

abbrev pub AttributeFits : Attribute → Type 0
AttributeFits a = BodyFits a.body

abbrev pub AttributesFit : List Attribute → Type 0
AttributesFit attributes = AllByRecursion AttributeFits attributes

abbrev pub MemberFits : Member → Type 0
MemberFits m = AttributesFit m.attributes

abbrev pub MembersFit : List Member → Type 0
MembersFit members = AllByRecursion MemberFits members

pub record CodesFit (c : ClassFile) : Type 0 where
  pub fields : MembersFit c.fields
  pub methods : MembersFit c.methods
  pub attributes : AttributesFit c.attributes
