-- Which method a call selects in the class of its receiver (JVM Specification SE 8, 5.4.5, 6.5 invokevirtual and
-- invokeinterface).
use Rattle.std.specs.Prelude.{◌≡◌, ℕ, true, false, List, Some, None}
use Rattle.cf_class.specs.declared.class_file.ClassFile.{ClassFile}
use Rattle.jv_base.specs.declared.method.MethodId.{MethodId}
use Rattle.hi_tree.specs.declared.declared.Access.{Access}
use Rattle.hi_tree.specs.declared.declared.Access.TheVariants.{Private}
use Rattle.hi_tree.specs.declared.declared.Declared.{Declared}
use Rattle.hi_tree.specs.declared.fault.TreeFault.{TreeFault}
use Rattle.hi_tree.specs.declared.fault.TreeFault.TheVariants as faults
use Rattle.hi_tree.specs.declared.known.Up.TheVariants.{Superclasses}
use Rattle.hi_tree.specs.Classes.{known_class}
use Rattle.hi_tree.specs.Supers.{climb}
use Rattle.hi_tree.specs.Sought.{override_sought}
use Rattle.hi_tree.specs.Methods.{declared_some, is_virtual, has_body_some}
use Rattle.hi_tree.specs.Faults.{IsWalkFault}
use Rattle.hi_tree.specs.Resolution.{holder}
use Rattle.hi_tree.specs.Superinterfaces.{whole_climb, IsDefault, IsOnlyDefault, HasTwoDefaults}
use Rattle.hi_tree.specs.Walks.{Climb, IsClean, Stops, found}

-- what its class says of a method
abbrev pub IsDeclared : List ClassFile → MethodId → Declared → Type 0
IsDeclared classes m d = declared_some m.name m.desc (known_class classes m.class) ≡ Some d

-- the walk over the superclasses that looks for the class of the method, or for one that overrides it
abbrev pub override_climb : List ClassFile → MethodId → Access → Climb
override_climb classes m access = climb classes Superclasses (override_sought m access)

-- a class and its superclasses neither override the method nor declare it, and all supertypes are known
pub record IsLeftOpen (classes : List ClassFile) (class : List ℕ) (m : MethodId) (d : Declared) : Type 0 where
  pub declared : IsDeclared classes m d
  pub overridable : is_virtual d ≡ true
  pub own : IsClean (override_climb classes m d.access) (holder class)
  pub whole : IsClean (whole_climb classes) (holder class)

-- the method of a class that stands for `m`
abbrev pub HasBody : List ClassFile → MethodId → List ℕ → Type 0
HasBody classes m class = has_body_some (declared_some m.name m.desc (known_class classes class)) ≡ true

-- the class whose method a call of `m` selects in a class: that of `m` where `m` is private; else the first upward
-- that overrides it or declares it; else the interface of the only maximally-specific superinterface method that is
-- not abstract. Methods that are static or abstract are not selected.
pub data IsSelectedIn (classes : List ClassFile) (class : List ℕ) (m : MethodId) : List ℕ → Type 0 where
  itself : (d : Declared) → IsDeclared classes m d → d.access ≡ Private → d.is_static ≡ false
      → d.is_abstract ≡ false → IsSelectedIn classes class m m.class
  override : (d : Declared) (selected : List ℕ) → IsDeclared classes m d → is_virtual d ≡ true
      → Stops (override_climb classes m d.access) (holder class) (found selected) → HasBody classes m selected
      → IsSelectedIn classes class m selected
  default : (d : Declared) (selected : List ℕ) → IsLeftOpen classes class m d
      → IsOnlyDefault classes (holder class) m.name m.desc selected → IsSelectedIn classes class m selected

pub record IsSelected (classes : List ClassFile) (class : List ℕ) (m selected : MethodId) : Type 0 where
  pub name : selected.name ≡ m.name
  pub desc : selected.desc ≡ m.desc
  pub in_class : IsSelectedIn classes class m selected.class

-- why it selects none
pub data IsSelectFault (classes : List ClassFile) (class : List ℕ) (m : MethodId) : TreeFault → Type 0 where
  -- the class of the method is not known, or does not declare it
  unknown : known_class classes m.class ≡ None → IsSelectFault classes class m (faults.NotLoaded m.class)
  undeclared : declared_some m.name m.desc (known_class classes m.class) ≡ None
      → (known_class classes m.class ≡ None → ⊥) → IsSelectFault classes class m faults.NoSuch
  -- the method is static, or private and abstract
  is_static : (d : Declared) → IsDeclared classes m d → d.is_static ≡ true
      → IsSelectFault classes class m faults.NoSuch
  no_body : (d : Declared) → IsDeclared classes m d → d.access ≡ Private → d.is_abstract ≡ true
      → IsSelectFault classes class m faults.NoSuch
  -- a walk stops before
  in_own : (d : Declared) (fault : TreeFault) → IsDeclared classes m d → is_virtual d ≡ true
      → IsWalkFault (override_climb classes m d.access) (holder class) fault → IsSelectFault classes class m fault
  above : (d : Declared) (fault : TreeFault) → IsDeclared classes m d → is_virtual d ≡ true
      → IsClean (override_climb classes m d.access) (holder class)
      → IsWalkFault (whole_climb classes) (holder class) fault → IsSelectFault classes class m fault
  -- the first that overrides it is abstract
  hidden : (d : Declared) (first : List ℕ) → IsDeclared classes m d → is_virtual d ≡ true
      → Stops (override_climb classes m d.access) (holder class) (found first)
      → (HasBody classes m first → ⊥) → IsSelectFault classes class m faults.NoSuch
  -- no maximally-specific superinterface method has a body, or two have one
  none : (d : Declared) → IsLeftOpen classes class m d
      → ((other : List ℕ) → IsDefault classes (holder class) m.name m.desc other → ⊥)
      → IsSelectFault classes class m faults.NoSuch
  two : (d : Declared) → IsLeftOpen classes class m d → HasTwoDefaults classes (holder class) m.name m.desc
      → IsSelectFault classes class m faults.Ambiguous
  memory : IsSelectFault classes class m faults.NoMemory
