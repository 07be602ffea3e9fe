-- For private functions and proofs alone: the types one deeper than a type.
use Rattle.std.specs.Prelude.{◌≡◌, ℕ, suc, false, List, Some, Contains, ◌⊎◌}
use Rattle.cf_class.specs.declared.class_file.ClassFile.{ClassFile}
use Rattle.cf_class.specs.declared.member.Member.{Member}
use Rattle.jv_base.specs.Descriptor.{ElementType, object, FieldType, IsFieldType, field_text}
use Rattle.hi_tree.specs.Classes.{class_in}
use Rattle.hi_tree.specs.Members.{has_flag}
use Rattle.hi_tree.specs.declared.known.Up.{Up}
use Rattle.hi_tree.specs.Inputs.{IsMade, HasField}
use Rattle.hi_inputs.specs.Upward.{names_up}

-- a class is directly above another
abbrev pub IsSuperOf : List ClassFile → Up → List ℕ → List ℕ → Type 0
IsSuperOf classes up class above = Contains (names_up classes up class) above

-- the type of a field that is not static
pub record IsInstanceType (field : Member) (t : FieldType) : Type 0 where
  pub not_static : has_flag field.flags 0x0008 ≡ false
  pub form : IsFieldType t
  pub type : field.desc.name ≡ field_text t

abbrev pub IsOfFields : List Member → FieldType → Type 0
IsOfFields fields t = (field : Member) × Contains fields field × IsInstanceType field t

-- the type of such a field that a class itself declares
abbrev pub DeclaresType : List ClassFile → List ℕ → FieldType → Type 0
DeclaresType classes class t = (file : ClassFile) × (class_in classes class ≡ Some file) × IsOfFields file.fields t

-- the type of a field of objects of a class
abbrev pub IsBelowElement : List ClassFile → ElementType → FieldType → Type 0
IsBelowElement classes element t =
    (name : List ℕ) × (element ≡ object name) × ((c : ClassFile) × IsMade classes name c) × HasField classes name t

-- the type of the elements of an array, or that of a field of objects
abbrev pub IsBelow : List ClassFile → FieldType → FieldType → Type 0
IsBelow classes u t = ((u.dimensions ≡ suc t.dimensions) × (u.element ≡ t.element))
    ⊎ ((u.dimensions ≡ 0) × IsBelowElement classes u.element t)
