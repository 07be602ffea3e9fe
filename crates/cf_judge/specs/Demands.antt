-- What the format demands of each field of a class file behind its structure (JVM Specification SE 8, 4.1, 4.4 to 4.7), at
-- the place of the field, in file order.
use Rattle.std.specs.Prelude.{ℕ, ◌+◌, Bool, true, false, List, [], ◌∷◌, ◌++◌, length}
use Rattle.std.specs.List.{flat_map, count_by}
use Rattle.jv_list.specs.Places.{each_at, each_place}
use Rattle.cf_pool.specs.declared.entry.PoolEntry.{PoolEntry}
use Rattle.cf_pool.specs.declared.entry.PoolEntry.TheVariants.{Class, Str, Field}
use Rattle.cf_pool.specs.declared.entry.PoolEntry.TheVariants.{Method, InterfaceMethod, NameAndType}
use Rattle.cf_pool.specs.Spelling.{entry_text}
use Rattle.cf_structure.specs.declared.code.Row.{Row}
use Rattle.cf_structure.specs.Raw.{RawSkipped, RawCode, RawBody, constant, code, skipped, RawAttribute, RawMember}
use Rattle.cf_structure.specs.Raw.{RawClass, RawFile}
use Rattle.cf_structure.specs.Spelled.{two, row_text, skipped_text, attribute_text, member_text}
use Rattle.cf_judge.specs.declared.form.Form.{Form}
use Rattle.cf_judge.specs.declared.form.Form.TheVariants as forms
use Rattle.cf_judge.specs.declared.index.Wanted.{Wanted}
use Rattle.cf_judge.specs.declared.index.Wanted.TheVariants as wanted
use Rattle.cf_judge.specs.declared.member.MemberKind.{MemberKind}
use Rattle.cf_judge.specs.declared.member.MemberKind.TheVariants as kinds

-- what a field has to be
pub data Rule : Type 0 where
  -- an index that finds what is wanted
  finds : Wanted → ℕ → Rule
  -- the index of a constant that fits the descriptor at another index
  fits : ℕ → ℕ → Rule
  -- no member with the name and descriptor of an earlier one
  is_new : List RawMember → RawMember → Rule
  -- flags that go with so many Codes
  has_codes : ℕ → ℕ → Rule

-- a rule at a place
pub record Demand : Type 0 where
  pub place : ℕ
  pub rule : Rule

abbrev pub demand : ℕ → Rule → Demand
demand place rule = record { place = place; rule = rule }

-- the name and the descriptor of a reference to a field, and of one to a method (4.4.2)
abbrev pub field_type : Wanted
field_type = wanted.NameAndType forms.Unqualified forms.FieldDescriptor

abbrev pub method_type : Wanted
method_type = wanted.NameAndType forms.Method forms.MethodDescriptor

-- two indices, one behind the other
abbrev pub pair_demands : ℕ → Wanted → ℕ → Wanted → ℕ → List Demand
pair_demands place first a second b = demand place (finds first a) ∷ demand (place + 2) (finds second b) ∷ []

-- an entry of the pool, whose indices stand behind its tag (4.4)
abbrev pub entry_demands : ℕ → PoolEntry → List Demand
entry_demands place (Class name) = demand (place + 1) (finds (wanted.Formed forms.ClassOrArray) name) ∷ []
entry_demands place (Str text) = demand (place + 1) (finds wanted.Text text) ∷ []
entry_demands place (Field class name_and_type) =
    pair_demands (place + 1) wanted.PlainClass class field_type name_and_type
entry_demands place (Method class name_and_type) =
    pair_demands (place + 1) wanted.Class class method_type name_and_type
entry_demands place (InterfaceMethod class name_and_type) =
    pair_demands (place + 1) wanted.Class class method_type name_and_type
entry_demands place (NameAndType name desc) =
    pair_demands (place + 1) (wanted.Formed forms.Unqualified) name (wanted.Formed forms.Descriptor) desc
entry_demands place entry = []

-- the name of an attribute (4.7)
abbrev pub attribute_name : ℕ → ℕ → Demand
attribute_name place name = demand place (finds (wanted.Formed forms.Attribute) name)

abbrev pub skipped_demands : ℕ → RawSkipped → List Demand
skipped_demands place a = attribute_name place a.name ∷ []

-- a row of an exception table (4.7.3): its catch type comes last
abbrev pub row_demands : ℕ → Row → List Demand
row_demands place r = demand (place + 6) (finds wanted.CatchType r.catch_type) ∷ []

-- a Code (4.7.3): its rows stand behind its code and their count, its attributes behind the rows and their count
abbrev pub rows_place : ℕ → RawCode → ℕ
rows_place place c = place + 8 + length c.code + 2

abbrev pub code_demands : ℕ → RawCode → List Demand
code_demands place c =
    each_place row_demands row_text (rows_place place c) c.rows
    ++ each_place skipped_demands skipped_text (rows_place place c + length (flat_map row_text c.rows) + 2) c.attributes

-- the content of an attribute of a member with that descriptor
abbrev pub body_demands : ℕ → ℕ → RawBody → List Demand
body_demands desc place (constant index) = demand place (fits desc index) ∷ []
body_demands desc place (code c) = code_demands place c
body_demands desc place (skipped content) = []

-- an attribute: its content stands behind its name and its length
abbrev pub attribute_demands : ℕ → ℕ → RawAttribute → List Demand
attribute_demands desc place a = attribute_name place a.name ∷ body_demands desc (place + 6) a.body

abbrev pub is_code : RawBody → Bool
is_code (code c) = true
is_code body = false

-- how many of the attributes are a Code
abbrev pub codes_in : List RawAttribute → ℕ
codes_in attributes = count_by (λ a. is_code a.body) attributes

-- the forms of a member's name and descriptor
abbrev pub name_form : MemberKind → Form
name_form kinds.Field = forms.Unqualified
name_form kinds.Method = forms.Method

abbrev pub desc_form : MemberKind → Form
desc_form kinds.Field = forms.FieldDescriptor
desc_form kinds.Method = forms.MethodDescriptor

-- the flags of a member behind earlier ones (4.5, 4.6)
abbrev pub flags_demands : MemberKind → List RawMember → ℕ → RawMember → List Demand
flags_demands kinds.Field earlier place m = demand place (is_new earlier m) ∷ []
flags_demands kinds.Method earlier place m =
    demand place (is_new earlier m) ∷ demand place (has_codes m.flags (codes_in m.attributes)) ∷ []

-- what stands behind the flags: the name, the descriptor, and the attributes behind their count
abbrev pub named_demands : MemberKind → ℕ → RawMember → List Demand
named_demands kind place m =
    pair_demands place (wanted.Formed (name_form kind)) m.name (wanted.Formed (desc_form kind)) m.desc
    ++ each_place (attribute_demands m.desc) attribute_text (place + 6) m.attributes

abbrev pub member_demands : MemberKind → List RawMember → ℕ → RawMember → List Demand
member_demands kind earlier place m = flags_demands kind earlier place m ++ named_demands kind (place + 2) m

abbrev pub members_demands : MemberKind → ℕ → List RawMember → List Demand
members_demands kind place ms = each_at (member_demands kind) member_text [] place ms

-- what stands behind the pool (4.1), each list behind its count
abbrev pub index_demands : ℕ → ℕ → List Demand
index_demands place index = demand place (finds wanted.PlainClass index) ∷ []

abbrev pub fields_place : ℕ → RawClass → ℕ
fields_place place c = place + 8 + length (flat_map two c.interfaces) + 2

abbrev pub methods_place : ℕ → RawClass → ℕ
methods_place place c = fields_place place c + length (flat_map member_text c.fields) + 2

abbrev pub attributes_place : ℕ → RawClass → ℕ
attributes_place place c = methods_place place c + length (flat_map member_text c.methods) + 2

-- the class, its superclass and its interfaces
abbrev pub header_demands : ℕ → RawClass → List Demand
header_demands place c =
    pair_demands (place + 2) wanted.PlainClass c.this_class wanted.PlainClass c.super_class
    ++ each_place index_demands two (place + 8) c.interfaces

-- what stands behind the pool; no ConstantValue counts among its attributes, so that no descriptor is asked for
abbrev pub class_demands : ℕ → RawClass → List Demand
class_demands place c =
    header_demands place c
    ++ (members_demands kinds.Field (fields_place place c) c.fields
    ++ (members_demands kinds.Method (methods_place place c) c.methods
    ++ each_place (attribute_demands 0) attribute_text (attributes_place place c) c.attributes))

-- a class file: the entries of its pool begin at place 10
abbrev pub demands : RawFile → List Demand
demands file =
    each_place entry_demands entry_text 10 file.pool
    ++ class_demands (10 + length (flat_map entry_text file.pool)) file.class
