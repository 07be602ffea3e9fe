-- What the rules are asked of: the facts that were given of classes and of methods, and what the rules read from them.
use Rattle.std.specs.Prelude.{◌≡◌, ℕ, ◌≤◌, Bool, true, false, List, [], ◌∷◌, Option, Some, None, is_some, Contains}
use Rattle.std.specs.Prelude.{slice_get, codes, ◌⊎◌}
use Rattle.jv_base.specs.declared.method.MethodId.{MethodId}
use Rattle.jv_base.specs.declared.method.FieldId.{FieldId}
use Rattle.jv_base.specs.Descriptor.{object, FieldType, MethodType, IsMethodType, method_text}
use Rattle.cf_pool.specs.declared.entry.PoolEntry.{PoolEntry}
use Rattle.cf_pool.specs.declared.entry.PoolEntry.TheVariants.{Str}
use Rattle.cf_class.specs.declared.attribute.Attribute.{Attribute}
use Rattle.cf_class.specs.declared.attribute.Body.{Body}
use Rattle.cf_class.specs.declared.attribute.Body.TheVariants as bodies
use Rattle.cf_class.specs.declared.member.Member.{Member}
use Rattle.cf_class.specs.declared.class_file.ClassFile.{ClassFile}
use Rattle.lib_rows.specs.Classes.{class_name}
use Rattle.lib_rows.specs.declared.class.Builtin.TheVariants.{Object, String}
use Rattle.bd_scan.specs.declared.fact.Fact.{Fact}
use Rattle.cf_class.specs.Members.{member_in, code_in}
use Rattle.hi_tree.specs.Classes.{read, known_class}
use Rattle.hi_tree.specs.Members.{has_flag}
use Rattle.hi_tree.specs.Inputs.{class_type, IsMade, StandsAt}

-- the class files that were given, and the facts of the methods that were
pub record Given : Type 0 where
  pub classes : List ClassFile
  pub facts : MethodId → Option (List Fact)

-- a class file is known under a name, and the class is not built in
abbrev pub IsRead : List ClassFile → List ℕ → ClassFile → Type 0
IsRead classes name c = known_class classes name ≡ Some (read c)

-- a type is that of a parameter or of the result (JVM Specification SE 8, 4.3.3)
abbrev pub IsOfMethod : MethodType → FieldType → Type 0
IsOfMethod m t = Contains m.parameters t ⊎ (m.result ≡ Some t)

-- a class stands in a method descriptor; of an array it is the class of its elements in the end
pub record IsDescriptorClass (desc class : List ℕ) : Type 0 where
  pub parsed : MethodType
  pub form : IsMethodType parsed
  pub text : desc ≡ method_text parsed
  pub type : FieldType
  pub among : IsOfMethod parsed type
  pub element : type.element ≡ object class

-- a class stands in the type of a value that inputs have, a reference at a depth that inputs go to
pub record IsInputType (classes : List ClassFile) (entry : MethodId) (depth : ℕ) (class : List ℕ) : Type 0 where
  pub type : FieldType
  pub at : ℕ
  pub within : at ≤ depth
  pub stands : StandsAt classes entry depth at type
  pub element : type.element ≡ object class

-- an input can have an object of a class: of one that was read and is neither an interface nor abstract, of
-- java.lang.Object, or of java.lang.String
pub record IsInputObject (classes : List ClassFile) (entry : MethodId) (depth : ℕ) (class : List ℕ) : Type 0 where
  pub at : ℕ
  pub within : at ≤ depth
  pub stands : StandsAt classes entry depth at (class_type class)
  pub made : ((c : ClassFile) × IsMade classes class c)
      ⊎ ((class ≡ class_name Object) ⊎ (class ≡ class_name String))

-- ACC_STATIC (4.6)
abbrev pub static_flag : ℕ
static_flag = 8

-- a method is there, and is called with a receiver
pub record HasReceiver (classes : List ClassFile) (m : MethodId) : Type 0 where
  pub class : ClassFile
  pub is_read : IsRead classes m.class class
  pub member : Member
  pub declared : member_in m.name m.desc class.methods ≡ Some member
  pub instance : has_flag member.flags static_flag ≡ false

-- the index of the first ConstantValue among attributes (4.7.2)
abbrev pub constant_or : Body → Option ℕ → Option ℕ
constant_or (bodies.Constant index) rest = Some index
constant_or other rest = rest

abbrev pub constant_in : List Attribute → Option ℕ
constant_in [] = None
constant_in (a ∷ attributes) = constant_or a.body (constant_in attributes)

abbrev pub is_text : Option PoolEntry → Bool
is_text (Some (Str index)) = true
is_text other = false

abbrev pub is_text_at : List PoolEntry → Option ℕ → Bool
is_text_at pool (Some index) = is_text (slice_get pool index)
is_text_at pool None = false

-- a field has a String as its ConstantValue
pub record HasText (classes : List ClassFile) (at : FieldId) : Type 0 where
  pub class : ClassFile
  pub is_read : IsRead classes at.class class
  pub field : Member
  pub declared : member_in at.name at.desc class.fields ≡ Some field
  pub text : is_text_at class.pool.entries (constant_in field.attributes) ≡ true

-- the method `<clinit>` of a class (2.9)
abbrev pub initialiser : List ℕ → MethodId
initialiser class = record { class = class; name = codes "<clinit>"; desc = codes "()V" }

-- a class has a static `<clinit>` with code
pub record HasInitialiser (classes : List ClassFile) (name : List ℕ) : Type 0 where
  pub class : ClassFile
  pub is_read : IsRead classes name class
  pub member : Member
  pub declared : member_in (initialiser name).name (initialiser name).desc class.methods ≡ Some member
  pub static : has_flag member.flags static_flag ≡ true
  pub code : is_some (code_in member.attributes) ≡ true
