-- What the instructions of executed methods refer to, over a table of classes.
use Rattle.std.specs.Prelude.{◌≡◌, ◌⊎◌, ℕ, Bool, true, false, List, Some, Contains}
use Rattle.jv_base.specs.declared.method.MethodId.{MethodId}
use Rattle.jv_base.specs.declared.method.FieldId.{FieldId}
use Rattle.cf_code.specs.declared.field.FieldUse.{FieldUse}
use Rattle.cf_class.specs.declared.class_file.ClassFile.{ClassFile}
use Rattle.cf_class.specs.declared.member.Member.{Member as MemberOf}
use Rattle.cf_class.specs.Members.{member_in}
use Rattle.lib_rows.specs.Classes.{class_name}
use Rattle.lib_rows.specs.declared.class.Builtin.{Builtin}
use Rattle.lib_rows.specs.declared.class.Builtin.TheVariants.{System}
use Rattle.bd_scan.specs.declared.fact.Fact.{Fact}
use Rattle.bd_scan.specs.declared.fact.Fact.TheVariants.{Special, Static, Virtual}
use Rattle.hi_tree.specs.Members.{has_flag}
use Rattle.hi_tree.specs.declared.declared.Declared.{Declared}
use Rattle.hi_tree.specs.Resolution.{holder, IsResolved}
use Rattle.hi_tree.specs.Selection.{IsDeclared, IsSelected}
use Rattle.hi_tree.specs.Special.{IsSpecial}
use Rattle.bd_core.specs.declared.job.Job.{Job}
use Rattle.bd_core.specs.declared.member.Member.TheVariants.{Method, Under}
use Rattle.bd_core.specs.Given.{Given, IsRead, static_flag}
use Rattle.bd_core.specs.Rules.{IsStaticUse}
use Rattle.bd_core.specs.Runs.{IsDerived}

-- a fact was told of a method that is executed
pub record IsUsed (j : Job) (g : Given) (m : MethodId) (f : Fact) : Type 0 where
  pub executed : IsDerived j g (Method m)
  pub facts : List Fact
  pub told : g.facts m ≡ Some facts
  pub among : Contains facts f

-- an instruction calls a method
pub data IsCall (pc : ℕ) (at : MethodId) (interface : Bool) : Fact → Type 0 where
  special : IsCall pc at interface (Special pc at interface)
  static : IsCall pc at interface (Static pc at interface)
  virtual : IsCall pc at interface (Virtual pc at interface)

-- the class of a reference is built in, or an array, which has the methods of java.lang.Object (10.7)
abbrev pub IsOfLibrary : List ℕ → Type 0
IsOfLibrary class = (b : Builtin) × (holder class ≡ class_name b)

-- the method that a static or a special call reaches
pub data IsFixedTarget (j : Job) (g : Given) (classes : List ClassFile) (m : MethodId) (pc : ℕ) : MethodId → Type 0 where
  static : (at target : MethodId) (interface : Bool) → IsUsed j g m (Static pc at interface)
      → IsResolved classes interface at target → IsFixedTarget j g classes m pc target
  special : (at target : MethodId) (interface : Bool) → IsUsed j g m (Special pc at interface)
      → IsSpecial classes m.class interface at target → IsFixedTarget j g classes m pc target

-- a call selects in a class of which objects are made: the class is the one that it names or below it, and the call means a
-- method of objects
pub record IsAskedIn (j : Job) (g : Given) (classes : List ClassFile) (m : MethodId) (pc : ℕ) (class : List ℕ)
    (resolved : MethodId) : Type 0 where
  pub at : MethodId
  pub interface : Bool
  pub used : IsUsed j g m (Virtual pc at interface)
  pub under : IsDerived j g (Under class at.class)
  pub resolves : IsResolved classes interface at resolved
  pub declared : Declared
  pub declares : IsDeclared classes resolved declared
  pub instance : declared.is_static ≡ false

-- a call reaches a method
pub data IsTarget (j : Job) (g : Given) (classes : List ClassFile) (m : MethodId) (pc : ℕ) (target : MethodId) : Type 0 where
  fixed : IsFixedTarget j g classes m pc target → IsTarget j g classes m pc target
  selected : (class : List ℕ) (resolved : MethodId) → IsAskedIn j g classes m pc class resolved
      → IsSelected classes class resolved target → IsTarget j g classes m pc target

-- a method is native (4.6, ACC_NATIVE)
pub record IsNative (classes : List ClassFile) (m : MethodId) : Type 0 where
  pub class : ClassFile
  pub is_read : IsRead classes m.class class
  pub member : MemberOf
  pub declared : member_in m.name m.desc class.methods ≡ Some member
  pub native : has_flag member.flags 0x0100 ≡ true

-- a field is static, or is not: those of java.lang.System are (4.5, ACC_STATIC)
pub data HasStatic (classes : List ClassFile) (f : FieldId) : Bool → Type 0 where
  stream : f.class ≡ class_name System → HasStatic classes f true
  read : (c : ClassFile) (member : MemberOf) → IsRead classes f.class c → member_in f.name f.desc c.fields ≡ Some member
      → HasStatic classes f (has_flag member.flags static_flag)

-- an instruction for static fields uses another one, or one for the fields of objects a static one
pub data Mismatches (access : FieldUse) : Bool → Type 0 where
  not_static : IsStaticUse access → Mismatches access false
  static : (IsStaticUse access → ⊥) → Mismatches access true
