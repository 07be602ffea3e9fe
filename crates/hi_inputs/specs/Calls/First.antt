-- For private functions and proofs alone: the types of the arguments of an entry method.
use Rattle.std.specs.Prelude.{◌≡◌, false, List, Some, Contains, ◌⊎◌}
use Rattle.cf_class.specs.declared.class_file.ClassFile.{ClassFile}
use Rattle.cf_class.specs.declared.member.Member.{Member}
use Rattle.cf_class.specs.Members.{member_in}
use Rattle.jv_base.specs.Descriptor.{FieldType, MethodType, IsMethodType, method_text}
use Rattle.jv_base.specs.declared.method.MethodId.{MethodId}
use Rattle.hi_tree.specs.Classes.{class_in}
use Rattle.hi_tree.specs.Members.{has_flag}
use Rattle.hi_tree.specs.Inputs.{class_type}

-- the type of the receiver
pub record IsReceiver (classes : List ClassFile) (entry : MethodId) (t : FieldType) : Type 0 where
  pub class : ClassFile
  pub method : Member
  pub read : class_in classes entry.class ≡ Some class
  pub declared : member_in entry.name entry.desc class.methods ≡ Some method
  pub instance : has_flag method.flags 0x0008 ≡ false
  pub type : t ≡ class_type entry.class

-- the type of a parameter
pub record IsParameter (entry : MethodId) (t : FieldType) : Type 0 where
  pub method : MethodType
  pub form : IsMethodType method
  pub text : entry.desc ≡ method_text method
  pub there : Contains method.parameters t

abbrev pub IsFirst : List ClassFile → MethodId → FieldType → Type 0
IsFirst classes entry t = IsReceiver classes entry t ⊎ IsParameter entry t
