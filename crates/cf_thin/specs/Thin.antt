-- Thin methods of class files.
use Rattle.std.specs.Prelude.{◌≡◌, ◌≢◌, ℕ, ◌≤◌, Bool, true, false, ◌&&◌, List, [], ◌∷◌, ◌++◌, length, find}
use Rattle.std.specs.Prelude.{replicate, codes, bit_and, Option, Some, None}
use Rattle.std.specs.List.{AllByRecursion}
use Rattle.jv_base.specs.declared.method.MethodId.{MethodId}
use Rattle.cf_class.specs.declared.class_file.ClassFile.{ClassFile}
use Rattle.cf_class.specs.declared.member.Member.{Member}
use Rattle.cf_class.specs.declared.code.Code.{Code}
use Rattle.cf_class.specs.Members.{member_in, code_in}
use Rattle.cf_thin.specs.declared.thin.ThinMethod.{ThinMethod}
use Rattle.cf_thin.specs.Instr.{thin_places}
use Rattle.cf_thin.specs.ThinCode.{ThinCode}

-- a class of that name, right below Object, with no interface and no initializer (4.1, 2.9)
pub record IsThinClass (class : ClassFile) (name : List ℕ) : Type 0 where
  pub this_class : class.this_class.name ≡ name
  pub super_class : class.super_class.name ≡ codes "java/lang/Object"
  pub interfaces : class.interfaces ≡ []
  pub initializers : AllByRecursion (λ (m : Member). m.name.name ≢ codes "<clinit>") class.methods

-- static, and neither native nor abstract (4.6, table 4.6-A)
pub record IsPlainStatic (access : ℕ) : Type 0 where
  pub is_static : bit_and access 0x0008 ≢ 0
  pub is_native : bit_and access 0x0100 ≡ 0
  pub is_abstract : bit_and access 0x0400 ≡ 0

-- the code of the method of the entry's name and descriptor, of which a class file has one at most: the method is static and
-- neither native nor abstract, and there is no exception handler
pub record IsCodeOfEntry (class : ClassFile) (entry : MethodId) (code : Code) : Type 0 where
  pub class_file : IsThinClass class entry.class
  pub method : Member
  pub named : member_in entry.name entry.desc class.methods ≡ Some method
  pub access : IsPlainStatic method.flags
  pub has : code_in method.attributes ≡ Some code
  pub handlers : code.rows ≡ []

-- the end of a descriptor that gives an int or nothing: ")I" or ")V" (4.3.3)
abbrev pub end_of : Bool → List ℕ
end_of true = 41 ∷ 73 ∷ []
end_of false = 41 ∷ 86 ∷ []

-- the descriptor of a method of so many ints: "(", a letter "I" for each, and the end (4.3.3)
abbrev pub int_descriptor : ℕ → Bool → List ℕ
int_descriptor params gives_int = 40 ∷ (replicate params 73 ++ end_of gives_int)

-- the code of a method with this descriptor is thin, of no more than 65,535 bytes, and its locals have room for the parameters
pub record HasThinCode (desc : List ℕ) (code : Code) (thin : ThinMethod) : Type 0 where
  pub params : ℕ
  pub gives_int : Bool
  pub descriptor : desc ≡ int_descriptor params gives_int
  pub room : params ≤ code.max_locals
  pub same_code : thin.code ≡ thin_places code.code
  pub same_locals : thin.max_locals ≡ code.max_locals
  pub fits : length thin.code ≤ 65535
  pub thin_code : ThinCode thin.code params gives_int code.max_stack code.max_locals

-- the class file has the thin method
pub record Thin (class : ClassFile) (entry : MethodId) (thin : ThinMethod) : Type 0 where
  pub code : Code
  pub code_of_entry : IsCodeOfEntry class entry code
  pub has_thin_code : HasThinCode entry.desc code thin
