-- The input classes of an entry method: those of the objects that its inputs can hold.
use Rattle.std.specs.Prelude.{◌≡◌, ℕ, suc, ◌+◌, ◌≤◌, false, List, Some, None, Contains, ◌⊎◌}
use Rattle.cf_class.specs.declared.class_file.ClassFile.{ClassFile}
use Rattle.cf_class.specs.declared.member.Member.{Member}
use Rattle.jv_base.specs.Descriptor.{object, FieldType, MethodType, IsFieldType, IsMethodType, field_text, method_text}
use Rattle.jv_base.specs.declared.method.MethodId.{MethodId}
use Rattle.hi_tree.specs.declared.known.Up.TheVariants.{Superclasses}
use Rattle.hi_tree.specs.Classes.{builtin_of, class_in, known_class}
use Rattle.cf_class.specs.Members.{member_in}
use Rattle.hi_tree.specs.Members.{has_flag}
use Rattle.hi_tree.specs.Supers.{names_above_some}
use Rattle.hi_tree.specs.Walks.{IsAbove}

abbrev pub class_type : List ℕ → FieldType
class_type name = record { dimensions = 0; element = object name }

-- a class that was read, neither abstract nor an interface
pub record IsMade (classes : List ClassFile) (name : List ℕ) (c : ClassFile) : Type 0 where
  pub read : class_in classes name ≡ Some c
  pub not_built_in : builtin_of name ≡ None
  pub not_abstract : has_flag c.flags 0x0400 ≡ false
  pub not_interface : has_flag c.flags 0x0200 ≡ false

-- the superclasses of a class
abbrev pub superclasses : List ClassFile → List ℕ → List (List ℕ)
superclasses classes name = names_above_some Superclasses (known_class classes name)

-- a class, or one of its superclasses, declares an instance field of a type
pub record HasField (classes : List ClassFile) (name : List ℕ) (t : FieldType) : Type 0 where
  pub class : List ℕ
  pub above : (name ≡ class) ⊎ IsAbove (superclasses classes) name class
  pub file : ClassFile
  pub read : class_in classes class ≡ Some file
  pub field : Member
  pub there : Contains file.fields field
  pub not_static : has_flag field.flags 0x0008 ≡ false
  pub form : IsFieldType t
  pub type : field.desc.name ≡ field_text t

-- a type stands in inputs at a depth: that of the receiver and of each parameter at 1; the elements of an array and the
-- fields of an object, inherited ones too, one deeper, up to the depth of inputs
pub data StandsAt (classes : List ClassFile) (entry : MethodId) (depth : ℕ) : ℕ → FieldType → Type 0 where
  receiver : (c : ClassFile) (m : Member) → class_in classes entry.class ≡ Some c
      → member_in entry.name entry.desc c.methods ≡ Some m → has_flag m.flags 0x0008 ≡ false
      → StandsAt classes entry depth 1 (class_type entry.class)
  parameter : (m : MethodType) (t : FieldType) → IsMethodType m → entry.desc ≡ method_text m
      → Contains m.parameters t → StandsAt classes entry depth 1 t
  element : (d : ℕ) (array : FieldType) (dimensions : ℕ) → d ≤ depth → array.dimensions ≡ suc dimensions
      → StandsAt classes entry depth d array
      → StandsAt classes entry depth (d + 1) (record { dimensions = dimensions; element = array.element })
  field : (d : ℕ) (name : List ℕ) (c : ClassFile) (t : FieldType) → d ≤ depth → IsMade classes name c
      → HasField classes name t → StandsAt classes entry depth d (class_type name)
      → StandsAt classes entry depth (d + 1) t

pub record IsInputClass (classes : List ClassFile) (entry : MethodId) (depth : ℕ) (name : List ℕ) : Type 0 where
  pub file : ClassFile
  pub made : IsMade classes name file
  pub at : ℕ
  pub within : at ≤ depth
  pub stands : StandsAt classes entry depth at (class_type name)
