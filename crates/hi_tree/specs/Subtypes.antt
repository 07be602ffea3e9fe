-- Which types are subtypes of which (JVM Specification SE 8, 4.10.1.2, and 6.5 checkcast).
use Rattle.std.specs.Prelude.{◌≡◌, ℕ, zero, suc, List, ◌⊎◌}
use Rattle.cf_class.specs.declared.class_file.ClassFile.{ClassFile}
use Rattle.jv_base.specs.Descriptor.{ElementType, base, object, FieldType}
use Rattle.lib_rows.specs.Classes.{class_name}
use Rattle.lib_rows.specs.declared.class.Builtin.TheVariants.{Object, Cloneable, Serializable}
use Rattle.hi_tree.specs.declared.fault.TreeFault.{TreeFault}
use Rattle.hi_tree.specs.declared.fault.TreeFault.TheVariants.{NoMemory}
use Rattle.hi_tree.specs.declared.known.Up.TheVariants.{Supertypes}
use Rattle.hi_tree.specs.Classes.{known_class}
use Rattle.hi_tree.specs.Supers.{names_above_some, climb}
use Rattle.hi_tree.specs.Sought.{class_sought}
use Rattle.hi_tree.specs.Faults.{IsWalkFault}
use Rattle.hi_tree.specs.Walks.{Climb, IsAbove}

-- the direct superinterfaces of a class, in order, and then its direct superclass
abbrev pub supertypes : List ClassFile → List ℕ → List (List ℕ)
supertypes classes name = names_above_some Supertypes (known_class classes name)

-- a class is a subtype of itself, and of each class and interface above it
abbrev pub IsSubclass : List ClassFile → List ℕ → List ℕ → Type 0
IsSubclass classes class top = (class ≡ top) ⊎ IsAbove (supertypes classes) class top

-- the classes that each array is a subtype of
abbrev pub IsArrayTop : List ℕ → Type 0
IsArrayTop name = (name ≡ class_name Object) ⊎ ((name ≡ class_name Cloneable) ⊎ (name ≡ class_name Serializable))

-- types without dimensions: primitive types are subtypes of themselves alone
abbrev pub IsElementSub : List ClassFile → ElementType → ElementType → Type 0
IsElementSub classes (base a) (base b) = a ≡ b
IsElementSub classes (object a) (object b) = IsSubclass classes a b
IsElementSub classes a b = ⊥

abbrev pub IsTopElement : ElementType → Type 0
IsTopElement (base letter) = ⊥
IsTopElement (object name) = IsArrayTop name

-- types with so many dimensions: an array is a subtype of the arrays of supertypes of its elements, and of three
-- classes
abbrev pub IsSubAt : List ClassFile → ElementType → ElementType → ℕ → ℕ → Type 0
IsSubAt classes a b zero zero = IsElementSub classes a b
IsSubAt classes a b zero (suc n) = ⊥
IsSubAt classes a b (suc m) zero = IsTopElement b
IsSubAt classes a b (suc m) (suc n) = IsSubAt classes a b m n

abbrev pub IsSubtype : List ClassFile → FieldType → FieldType → Type 0
IsSubtype classes a b = IsSubAt classes a.element b.element a.dimensions b.dimensions

-- the walk that looks for a class
abbrev pub class_climb : List ClassFile → List ℕ → Climb
class_climb classes top = climb classes Supertypes (class_sought top)

abbrev pub IsElementFault : List ClassFile → ElementType → ElementType → TreeFault → Type 0
IsElementFault classes (object a) (object b) fault = IsWalkFault (class_climb classes b) a fault
IsElementFault classes a b fault = ⊥

-- why there is no answer: the walk from the one class to the other stops before
abbrev pub IsSubFaultAt : List ClassFile → ElementType → ElementType → ℕ → ℕ → TreeFault → Type 0
IsSubFaultAt classes a b zero zero fault = IsElementFault classes a b fault
IsSubFaultAt classes a b zero (suc n) fault = ⊥
IsSubFaultAt classes a b (suc m) zero fault = ⊥
IsSubFaultAt classes a b (suc m) (suc n) fault = IsSubFaultAt classes a b m n fault

abbrev pub IsSubtypeFault : List ClassFile → FieldType → FieldType → TreeFault → Type 0
IsSubtypeFault classes a b fault = IsSubFaultAt classes a.element b.element a.dimensions b.dimensions fault

-- the walk that decides comes to its end: no fault stands but want of memory
abbrev pub IsUnhindered : List ClassFile → FieldType → FieldType → Type 0
IsUnhindered classes a b = (fault : TreeFault) → IsSubtypeFault classes a b fault → fault ≡ NoMemory
