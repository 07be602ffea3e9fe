-- The loading rules: what follows from members of the least sets by one rule. Classes that are known, methods that are
-- executed and classes of which objects are made are the members that are asked for (K, M and I). The others serve the
-- rules: calls that select, classes that may be initialised, and pairs of a made class and one above it.
use Rattle.std.specs.Prelude.{◌≡◌, ℕ, Bool, true, List, Some, Contains, ◌⊎◌}
use Rattle.jv_base.specs.declared.method.MethodId.{MethodId}
use Rattle.jv_base.specs.declared.method.FieldId.{FieldId}
use Rattle.cf_code.specs.declared.field.FieldUse.{FieldUse}
use Rattle.cf_code.specs.declared.field.FieldUse.TheVariants.{GetStatic, PutStatic}
use Rattle.lib_rows.specs.declared.class.Builtin.{Builtin}
use Rattle.lib_rows.specs.declared.class.Builtin.TheVariants as builtins
use Rattle.lib_rows.specs.declared.method.LibMethod.{LibMethod}
use Rattle.lib_rows.specs.Classes.{class_name}
use Rattle.lib_rows.specs.Rows.{IsRow}
use Rattle.bd_scan.specs.declared.fact.Fact.{Fact}
use Rattle.bd_scan.specs.declared.fact.Fact.TheVariants.{New, Names, Special, Static, Virtual, Init, Raises, Literal}
use Rattle.bd_scan.specs.declared.fact.Fact.TheVariants.{Reads}
use Rattle.hi_tree.specs.declared.known.Up.TheVariants.{Superclasses}
use Rattle.hi_tree.specs.Classes.{known_class}
use Rattle.hi_tree.specs.Supers.{names_above_some}
use Rattle.hi_tree.specs.Subtypes.{supertypes}
use Rattle.hi_tree.specs.Fields.{IsField}
use Rattle.hi_tree.specs.Resolution.{IsResolved}
use Rattle.hi_tree.specs.Selection.{IsSelected}
use Rattle.hi_tree.specs.Special.{IsSpecial}
use Rattle.bd_core.specs.declared.member.Member.{Member}
use Rattle.bd_core.specs.declared.member.Member.TheVariants.{Known, Method, Made, Called, Initialised, Under}
use Rattle.bd_core.specs.declared.job.Job.{Job}
use Rattle.bd_core.specs.Given.{Given, IsDescriptorClass, IsInputType, IsInputObject, HasReceiver, HasText}
use Rattle.bd_core.specs.Given.{HasInitialiser, initialiser}
use Rattle.bd_core.specs.Rows.{gives_text, row_exceptions}

-- a static field is read or written
abbrev pub IsStaticUse : FieldUse → Type 0
IsStaticUse access = (access ≡ GetStatic) ⊎ (access ≡ PutStatic)

-- a class is directly above another; it is its superclass
abbrev pub IsSuper : Given → List ℕ → List ℕ → Type 0
IsSuper g class super = Contains (supertypes g.classes class) super

abbrev pub IsSuperclass : Given → List ℕ → List ℕ → Type 0
IsSuperclass g class super = Contains (names_above_some Superclasses (known_class g.classes class)) super

-- what the entry gives
pub data FromEntry (j : Job) (g : Given) : Member → Type 0 where
  -- the entry is executed; its class may be initialised, and the classes of its descriptor are known
  entry : FromEntry j g (Method j.entry)
  initialised : FromEntry j g (Initialised j.entry.class)
  described : (class : List ℕ) → IsDescriptorClass j.entry.desc class → FromEntry j g (Known class)
  -- a receiver is an object of the entry's class
  receiver : HasReceiver g.classes j.entry → FromEntry j g (Made j.entry.class)
  -- the classes of the types that inputs have are known; those of the objects that inputs have are made and initialised
  input_type : (class : List ℕ) → IsInputType g.classes j.entry j.depth class → FromEntry j g (Known class)
  input_made : (class : List ℕ) → IsInputObject g.classes j.entry j.depth class → FromEntry j g (Made class)
  input_initialised : (class : List ℕ) → IsInputObject g.classes j.entry j.depth class
      → FromEntry j g (Initialised class)

-- what a fact of a method gives
pub data FromFact (g : Given) (m : MethodId) : Fact → Member → Type 0 where
  -- an object is made by `new`, by a constant, by the read of a field with a String constant or of System.out or
  -- System.err
  new : (pc : ℕ) (class : List ℕ) → FromFact g m (New pc class) (Made class)
  literal : (class : List ℕ) → FromFact g m (Literal class) (Made class)
  constant : (pc : ℕ) (at declared : FieldId) → IsField g.classes at declared → HasText g.classes declared
      → FromFact g m (Reads pc at GetStatic) (Made (class_name builtins.String))
  stream : (pc : ℕ) (at declared : FieldId) → IsField g.classes at declared
      → declared.class ≡ class_name builtins.System
      → FromFact g m (Reads pc at GetStatic) (Made (class_name builtins.PrintStream))
  -- a fixed call reaches its method
  static_call : (pc : ℕ) (at target : MethodId) (interface : Bool) → IsResolved g.classes interface at target
      → FromFact g m (Static pc at interface) (Method target)
  special_call : (pc : ℕ) (at target : MethodId) (interface : Bool) → IsSpecial g.classes m.class interface at target
      → FromFact g m (Special pc at interface) (Method target)
  -- another call selects its method
  virtual_call : (pc : ℕ) (at : MethodId) (interface : Bool)
      → FromFact g m (Virtual pc at interface) (Called at interface)
  -- a class may be initialised by `new`, by a static call, by the use of a static field
  initialises : (class : List ℕ) → FromFact g m (Init class) (Initialised class)
  static_initialises : (pc : ℕ) (at target : MethodId) (interface : Bool) → IsResolved g.classes interface at target
      → FromFact g m (Static pc at interface) (Initialised target.class)
  field_initialises : (pc : ℕ) (at declared : FieldId) (access : FieldUse) → IsStaticUse access
      → IsField g.classes at declared → FromFact g m (Reads pc at access) (Initialised declared.class)
  -- a class is named
  named : (class : List ℕ) → FromFact g m (Names class) (Known class)
  -- an exception may be raised
  raised : (class : List ℕ) → FromFact g m (Raises class) (Made class)
  -- what was resolved has a class that declares it
  special_declared : (pc : ℕ) (at resolved : MethodId) (interface : Bool) → IsResolved g.classes interface at resolved
      → FromFact g m (Special pc at interface) (Known resolved.class)
  virtual_declared : (pc : ℕ) (at resolved : MethodId) (interface : Bool) → IsResolved g.classes interface at resolved
      → FromFact g m (Virtual pc at interface) (Known resolved.class)
  field_declared : (pc : ℕ) (at declared : FieldId) (access : FieldUse) → IsField g.classes at declared
      → FromFact g m (Reads pc at access) (Known declared.class)

-- what a member gives by itself
pub data FromMember (g : Given) : Member → Member → Type 0 where
  -- the supertypes of what is known are known
  super : (class above : List ℕ) → IsSuper g class above → FromMember g (Known class) (Known above)
  -- what is made is known, and is under itself and the classes above it
  made : (class : List ℕ) → FromMember g (Made class) (Known class)
  itself : (class : List ℕ) → FromMember g (Made class) (Under class class)
  above : (class above top : List ℕ) → IsSuper g above top → FromMember g (Under class above) (Under class top)
  -- a superclass may be initialised before, and each of them is by its `<clinit>`
  super_initialised : (class above : List ℕ) → IsSuperclass g class above
      → FromMember g (Initialised class) (Initialised above)
  initialised : (class : List ℕ) → HasInitialiser g.classes class
      → FromMember g (Initialised class) (Method (initialiser class))
  -- a method's class is known; a method of the library may give a String and raise exceptions
  declared : (m : MethodId) → FromMember g (Method m) (Known m.class)
  row_text : (m : MethodId) (row : LibMethod) → IsRow m row → gives_text row ≡ true
      → FromMember g (Method m) (Made (class_name builtins.String))
  row_raises : (m : MethodId) (row : LibMethod) (exception : Builtin) → IsRow m row
      → Contains (row_exceptions row) exception → FromMember g (Method m) (Made (class_name exception))

-- what a call selects in a class
pub record IsChosen (g : Given) (class : List ℕ) (at : MethodId) (interface : Bool) (target : MethodId) : Type 0 where
  pub resolved : MethodId
  pub resolves : IsResolved g.classes interface at resolved
  pub selects : IsSelected g.classes class resolved target

-- what follows from members by one rule
pub data Follows (j : Job) (g : Given) (before : List Member) : Member → Type 0 where
  from_entry : (x : Member) → FromEntry j g x → Follows j g before x
  from_fact : (m : MethodId) (facts : List Fact) (f : Fact) (x : Member) → Contains before (Method m)
      → g.facts m ≡ Some facts → Contains facts f → FromFact g m f x → Follows j g before x
  from_member : (p x : Member) → Contains before p → FromMember g p x → Follows j g before x
  -- for each call that selects and each made class under the one that it names, what is selected there is executed
  selected : (class : List ℕ) (at target : MethodId) (interface : Bool) → Contains before (Under class at.class)
      → Contains before (Called at interface) → IsChosen g class at interface target
      → Follows j g before (Method target)
