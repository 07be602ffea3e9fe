-- What stands in the way of a verdict, by the sets that the loading rules allow. References are judged over the class files
-- without those that have unsuited supertypes: a walk that meets one of them, or a class without a file, is not judged.
use Rattle.std.specs.Prelude.{◌≡◌, ◌⊎◌, ℕ, Bool, true, false, List, Some, None, Contains}
use Rattle.jv_base.specs.declared.method.MethodId.{MethodId}
use Rattle.jv_base.specs.declared.method.FieldId.{FieldId}
use Rattle.cf_code.specs.declared.field.FieldUse.{FieldUse}
use Rattle.cf_pool.specs.declared.fault.Fault.{Fault}
use Rattle.cf_pool.specs.declared.fault.What.TheVariants as what
use Rattle.cf_class.specs.declared.class_file.ClassFile.{ClassFile}
use Rattle.cf_class.specs.declared.member.Member.{Member as MemberOf}
use Rattle.cf_class.specs.Members.{member_in}
use Rattle.lib_rows.specs.Classes.{class_name, is_interface}
use Rattle.lib_rows.specs.declared.class.Builtin.{Builtin}
use Rattle.bd_scan.specs.Descriptors.{has_float}
use Rattle.bd_scan.specs.Methods.{member_code}
use Rattle.bd_scan.specs.declared.fact.Fact.{Fact}
use Rattle.bd_scan.specs.declared.fact.Fact.TheVariants.{Special, Static, Virtual, Reads, Refuse}
use Rattle.bd_scan.specs.declared.fact.Why.{Why}
use Rattle.bd_scan.specs.declared.fact.Why.TheVariants.{Float, Native, Library, Ambiguous, NoSelection, StaticMismatch}
use Rattle.bd_scan.specs.declared.fact.Why.TheVariants.{InterfaceInitialiser}
use Rattle.hi_tree.specs.Members.{has_flag}
use Rattle.hi_tree.specs.Classes.{read}
use Rattle.hi_tree.specs.Methods.{is_interface_class}
use Rattle.hi_tree.specs.declared.declared.Declared.{Declared}
use Rattle.hi_tree.specs.declared.fault.TreeFault.TheVariants as faults
use Rattle.hi_tree.specs.Fields.{IsField, IsFieldFault}
use Rattle.hi_tree.specs.Resolution.{IsResolved, IsResolveFault}
use Rattle.hi_tree.specs.Selection.{IsDeclared, IsSelectFault}
use Rattle.hi_tree.specs.Special.{IsSpecial, IsSpecialFault}
use Rattle.bd_core.specs.declared.item.Unread.TheVariants as unread
use Rattle.bd_core.specs.declared.job.Job.{Job}
use Rattle.bd_core.specs.declared.member.Member.TheVariants.{Known, Method}
use Rattle.bd_core.specs.Given.{Given, IsRead, HasInitialiser, initialiser, static_flag}
use Rattle.bd_core.specs.Runs.{IsDerived}
use Rattle.bd_core.specs.Told.{Told}
use Rattle.bd_refusals.specs.Suited.{HasUnsuited, IsCircular}
use Rattle.bd_refusals.specs.References.{IsUsed, IsCall, IsOfLibrary, IsFixedTarget, IsAskedIn, IsTarget, IsNative}
use Rattle.bd_refusals.specs.References.{HasStatic, Mismatches}
use Rattle.bd_refusals.specs.declared.refusal.Refusal.{Refusal}
use Rattle.bd_refusals.specs.declared.refusal.Refusal.TheVariants as refusals

-- a method wants a receiver, and no object is of the class itself, which is an interface or abstract (4.1, 4.6)
pub record HasNoObject (c : ClassFile) (m : MemberOf) : Type 0 where
  pub instance : has_flag m.flags static_flag ≡ false
  pub no_object : (has_flag c.flags 0x0200 ≡ true) ⊎ (has_flag c.flags 0x0400 ≡ true)

-- a class file declares no such method with code, or the method wants a receiver that there is not
pub data LacksMethod (c : ClassFile) (entry : MethodId) : Type 0 where
  no_code : member_code (member_in entry.name entry.desc c.methods) ≡ None → LacksMethod c entry
  no_receiver : (m : MemberOf) → member_in entry.name entry.desc c.methods ≡ Some m → HasNoObject c m
      → LacksMethod c entry

-- runs cannot begin at an entry method: its class is built in, or was read and lacks the method
pub data LacksEntry (classes : List ClassFile) (entry : MethodId) : Type 0 where
  built_in : (b : Builtin) → entry.class ≡ class_name b → LacksEntry classes entry
  of_file : (c : ClassFile) → IsRead classes entry.class c → LacksMethod c entry → LacksEntry classes entry

-- what is wrong with a class that is known: its file is outside the format or too long, or it has unsuited supertypes
pub data IsMalformed (t : Told) (name : List ℕ) : Fault → Type 0 where
  outside : (fault : Fault) → t.unread name ≡ Some (unread.Malformed fault) → IsMalformed t name fault
  too_long : t.unread name ≡ Some unread.TooLong
      → IsMalformed t name (record { place = 16777216; what = what.TooLong })
  circular : IsCircular t.given.classes name → IsMalformed t name (record { place = 0; what = what.Circular })
  bad_super : (c : ClassFile) → IsRead t.given.classes name c → HasUnsuited t.given.classes c
      → IsMalformed t name (record { place = 0; what = what.BadSuper })

-- an instruction of a method, or at 0 the method itself, is not supported
pub data IsUnsupported (j : Job) (g : Given) (classes : List ClassFile) (m : MethodId) (pc : ℕ) : Why → Type 0 where
  -- by the facts of the method; a float or a double in the descriptor of one that has no code
  told : (why : Why) → IsUsed j g m (Refuse pc why) → IsUnsupported j g classes m pc why
  descriptor : IsDerived j g (Method m) → has_float m.desc ≡ true → pc ≡ 0 → IsUnsupported j g classes m pc Float
  -- a reference to the library finds no row, or an interface of the library is called
  no_row : (f : Fact) (at : MethodId) (interface : Bool) → IsUsed j g m f → IsCall pc at interface f
      → IsOfLibrary at.class → IsResolveFault classes interface at faults.NoSuch
      → IsUnsupported j g classes m pc Library
  no_field : (at : FieldId) (access : FieldUse) → IsUsed j g m (Reads pc at access) → IsOfLibrary at.class
      → IsFieldFault classes at faults.NoSuch → IsUnsupported j g classes m pc Library
  interface : (f : Fact) (at : MethodId) (interface : Bool) (b : Builtin) → IsUsed j g m f → IsCall pc at interface f
      → at.class ≡ class_name b → is_interface b ≡ true → IsUnsupported j g classes m pc Library
  -- a native method is called
  native : (target : MethodId) → IsTarget j g classes m pc target → IsNative classes target
      → IsUnsupported j g classes m pc Native
  -- two maximally-specific defaults are selected; none is, or an abstract method is called
  ambiguous : (class : List ℕ) (resolved : MethodId) → IsAskedIn j g classes m pc class resolved
      → IsSelectFault classes class resolved faults.Ambiguous → IsUnsupported j g classes m pc Ambiguous
  none : (class : List ℕ) (resolved : MethodId) → IsAskedIn j g classes m pc class resolved
      → IsSelectFault classes class resolved faults.NoSuch → IsUnsupported j g classes m pc NoSelection
  no_super : (at resolved : MethodId) (interface : Bool) → IsUsed j g m (Special pc at interface)
      → IsResolved classes interface at resolved → IsSpecialFault classes m.class interface at faults.NoSuch
      → IsUnsupported j g classes m pc NoSelection
  abstract : (target : MethodId) (d : Declared) → IsFixedTarget j g classes m pc target → IsDeclared classes target d
      → d.is_abstract ≡ true → IsUnsupported j g classes m pc NoSelection
  -- a static member where another is asked, or another where a static one is
  not_static : (at target : MethodId) (interface : Bool) (d : Declared) → IsUsed j g m (Static pc at interface)
      → IsResolved classes interface at target → IsDeclared classes target d → d.is_static ≡ false
      → IsUnsupported j g classes m pc StaticMismatch
  static_special : (at target : MethodId) (interface : Bool) (d : Declared) → IsUsed j g m (Special pc at interface)
      → IsSpecial classes m.class interface at target → IsDeclared classes target d → d.is_static ≡ true
      → IsUnsupported j g classes m pc StaticMismatch
  static_virtual : (at target : MethodId) (interface : Bool) (d : Declared) → IsUsed j g m (Virtual pc at interface)
      → IsResolved classes interface at target → IsDeclared classes target d → d.is_static ≡ true
      → IsUnsupported j g classes m pc StaticMismatch
  field : (at f : FieldId) (access : FieldUse) (static : Bool) → IsUsed j g m (Reads pc at access)
      → IsField classes at f → HasStatic classes f static → Mismatches access static
      → IsUnsupported j g classes m pc StaticMismatch
  -- a `<clinit>` of an interface is executed (2.9)
  of_interface : (c : ClassFile) → m ≡ initialiser m.class → pc ≡ 0 → IsDerived j g (Method m)
      → HasInitialiser g.classes m.class → IsRead g.classes m.class c → is_interface_class (read c) ≡ true
      → IsUnsupported j g classes m pc InterfaceInitialiser

-- A refusal applies. `suited` are the class files that references are judged over.
pub data Applies (j : Job) (t : Told) (suited : List ClassFile) : Refusal → Type 0 where
  no_entry : LacksEntry t.given.classes j.entry → Applies j t suited (refusals.NoEntry j.entry)
  missing_class : (name : List ℕ) → IsDerived j t.given (Known name) → t.unread name ≡ Some unread.Absent
      → Applies j t suited (refusals.MissingClass name)
  missing_method : (m : MethodId) (f : Fact) (pc : ℕ) (at : MethodId) (interface : Bool) → IsUsed j t.given m f
      → IsCall pc at interface f → (IsOfLibrary at.class → ⊥) → IsResolveFault suited interface at faults.NoSuch
      → Applies j t suited (refusals.MissingMethod at)
  missing_field : (m : MethodId) (pc : ℕ) (at : FieldId) (access : FieldUse) → IsUsed j t.given m (Reads pc at access)
      → (IsOfLibrary at.class → ⊥) → IsFieldFault suited at faults.NoSuch
      → Applies j t suited (refusals.MissingField at)
  malformed : (name : List ℕ) (fault : Fault) → IsDerived j t.given (Known name) → IsMalformed t name fault
      → Applies j t suited (refusals.Malformed name fault)
  unsupported : (m : MethodId) (pc : ℕ) (why : Why) → IsUnsupported j t.given suited m pc why
      → Applies j t suited (refusals.Unsupported (record { method = m; pc = pc }) why)
