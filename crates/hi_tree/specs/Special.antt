-- Which method an invokespecial calls (JVM Specification SE 8, 6.5 invokespecial): `<init>` and private methods as they
-- are resolved; any other is looked up from the direct superclass of the caller's class, if the named class is a
-- superclass of the caller's, and else it is the resolved one.
use Rattle.std.specs.Prelude.{◌≡◌, ℕ, Bool, false, List, ◌⊎◌, Contains, codes}
use Rattle.cf_class.specs.declared.class_file.ClassFile.{ClassFile}
use Rattle.jv_base.specs.declared.method.MethodId.{MethodId}
use Rattle.hi_tree.specs.declared.declared.Access.TheVariants.{Private}
use Rattle.hi_tree.specs.declared.declared.Declared.{Declared}
use Rattle.hi_tree.specs.declared.fault.TreeFault.{TreeFault}
use Rattle.hi_tree.specs.declared.known.Up.TheVariants.{Superclasses}
use Rattle.hi_tree.specs.Classes.{known_class}
use Rattle.hi_tree.specs.Supers.{climb, names_above_some}
use Rattle.hi_tree.specs.Sought.{class_sought}
use Rattle.hi_tree.specs.Faults.{IsWalkFault}
use Rattle.hi_tree.specs.Resolution.{IsResolved, IsResolveFault}
use Rattle.hi_tree.specs.Selection.{IsDeclared}
use Rattle.hi_tree.specs.Walks.{Climb, IsClean, Stops, found}

-- a method is called as it is resolved
abbrev pub IsFixed : List ClassFile → MethodId → Type 0
IsFixed classes m = (m.name ≡ codes "<init>") ⊎ ((d : Declared) × IsDeclared classes m d × (d.access ≡ Private))

-- the walk over superclasses that looks for a class
abbrev pub superclass_climb : List ClassFile → List ℕ → Climb
superclass_climb classes top = climb classes Superclasses (class_sought top)

-- the same method of another class
abbrev pub of_class : MethodId → List ℕ → MethodId
of_class m class = record { class = class; name = m.name; desc = m.desc }

-- the method that an invokespecial in a method of the class `caller` calls
pub data IsSpecial (classes : List ClassFile) (caller : List ℕ) (interface : Bool) (at : MethodId) : MethodId → Type 0 where
  fixed : (m : MethodId) → IsResolved classes interface at m → IsFixed classes m → IsSpecial classes caller interface at m
  above : (resolved m : MethodId) (super : List ℕ) → IsResolved classes interface at resolved
      → (IsFixed classes resolved → ⊥) → (caller ≡ at.class → ⊥)
      → Stops (superclass_climb classes at.class) caller (found at.class)
      → Contains (names_above_some Superclasses (known_class classes caller)) super
      → IsResolved classes false (of_class at super) m → IsSpecial classes caller interface at m
  own : (m : MethodId) → IsResolved classes interface at m → (IsFixed classes m → ⊥) → caller ≡ at.class
      → IsSpecial classes caller interface at m
  other : (m : MethodId) → IsResolved classes interface at m → (IsFixed classes m → ⊥)
      → IsClean (superclass_climb classes at.class) caller → IsSpecial classes caller interface at m

-- why it calls none: the reference means no method; or the method is looked up elsewhere, and the walk over superclasses
-- stops before it comes to the named class, or the look-up from the direct superclass finds none
pub data IsSpecialFault (classes : List ClassFile) (caller : List ℕ) (interface : Bool) (at : MethodId)
    : TreeFault → Type 0 where
  unresolved : (fault : TreeFault) → IsResolveFault classes interface at fault
      → IsSpecialFault classes caller interface at fault
  in_walk : (resolved : MethodId) (fault : TreeFault) → IsResolved classes interface at resolved
      → (IsFixed classes resolved → ⊥) → (caller ≡ at.class → ⊥)
      → IsWalkFault (superclass_climb classes at.class) caller fault → IsSpecialFault classes caller interface at fault
  looked_up : (resolved : MethodId) (super : List ℕ) (fault : TreeFault) → IsResolved classes interface at resolved
      → (IsFixed classes resolved → ⊥) → (caller ≡ at.class → ⊥)
      → Stops (superclass_climb classes at.class) caller (found at.class)
      → Contains (names_above_some Superclasses (known_class classes caller)) super
      → IsResolveFault classes false (of_class at super) fault → IsSpecialFault classes caller interface at fault
