-- Which method a reference means (JVM Specification SE 8, 5.4.3.3 of classes, 5.4.3.4 of interfaces).
use Rattle.std.specs.Prelude.{◌≡◌, ℕ, Bool, true, false, List, [], ◌∷◌, nat_eq, if◌then◌else◌}
use Rattle.cf_class.specs.declared.class_file.ClassFile.{ClassFile}
use Rattle.jv_base.specs.declared.method.MethodId.{MethodId}
use Rattle.lib_rows.specs.Classes.{class_name}
use Rattle.lib_rows.specs.declared.class.Builtin.TheVariants.{Object}
use Rattle.hi_tree.specs.declared.fault.TreeFault.{TreeFault}
use Rattle.hi_tree.specs.declared.fault.TreeFault.TheVariants as faults
use Rattle.hi_tree.specs.declared.known.Up.{Up}
use Rattle.hi_tree.specs.declared.known.Up.TheVariants.{Superclasses, ObjectAlone}
use Rattle.hi_tree.specs.Supers.{climb}
use Rattle.hi_tree.specs.Sought.{method_sought}
use Rattle.hi_tree.specs.Faults.{IsWalkFault}
use Rattle.hi_tree.specs.Superinterfaces.{whole_climb, IsOffered, IsOnlyDefault, IsLeast}
use Rattle.hi_tree.specs.Walks.{Climb, IsClean, Stops, found}

-- the class whose methods a class has: those of an array are the methods of java.lang.Object (10.7)
abbrev pub holder : List ℕ → List ℕ
holder [] = []
holder (x ∷ xs) = if nat_eq x 91 then class_name Object else x ∷ xs

-- a class and its superclasses, in order; an interface, and then java.lang.Object
abbrev pub own_up : Bool → Up
own_up true = ObjectAlone
own_up false = Superclasses

-- the walk that looks for a method there
abbrev pub own_climb : List ClassFile → Bool → MethodId → Climb
own_climb classes interface at = climb classes (own_up interface) (method_sought at.name at.desc)

-- none of them declares the method, and all supertypes are known
pub record IsInherited (classes : List ClassFile) (interface : Bool) (at : MethodId) : Type 0 where
  pub own : IsClean (own_climb classes interface at) (holder at.class)
  pub whole : IsClean (whole_climb classes) (holder at.class)

-- the class that declares the method: the first of them; else the interface of the only maximally-specific
-- superinterface method that is not abstract; else the one of the least name with a superinterface method
pub data IsDeclaredBy (classes : List ClassFile) (interface : Bool) (at : MethodId) : List ℕ → Type 0 where
  own : (class : List ℕ) → Stops (own_climb classes interface at) (holder at.class) (found class)
      → IsDeclaredBy classes interface at class
  default : (class : List ℕ) → IsInherited classes interface at
      → IsOnlyDefault classes (holder at.class) at.name at.desc class → IsDeclaredBy classes interface at class
  any : (class : List ℕ) → IsInherited classes interface at
      → ((other : List ℕ) → IsOnlyDefault classes (holder at.class) at.name at.desc other → ⊥)
      → IsLeast classes (holder at.class) at.name at.desc class → IsDeclaredBy classes interface at class

-- the method that a reference means
pub record IsResolved (classes : List ClassFile) (interface : Bool) (at method : MethodId) : Type 0 where
  pub name : method.name ≡ at.name
  pub desc : method.desc ≡ at.desc
  pub declared : IsDeclaredBy classes interface at method.class

-- why it means none: a walk stops before, or the whole walk finds none
pub data IsResolveFault (classes : List ClassFile) (interface : Bool) (at : MethodId) : TreeFault → Type 0 where
  in_own : (fault : TreeFault) → IsWalkFault (own_climb classes interface at) (holder at.class) fault
      → IsResolveFault classes interface at fault
  above : (fault : TreeFault) → IsClean (own_climb classes interface at) (holder at.class)
      → IsWalkFault (whole_climb classes) (holder at.class) fault → IsResolveFault classes interface at fault
  none : IsInherited classes interface at
      → ((other : List ℕ) → IsOffered classes (holder at.class) at.name at.desc other → ⊥)
      → IsResolveFault classes interface at faults.NoSuch
