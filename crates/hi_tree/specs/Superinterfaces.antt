-- The superinterface methods of a class, and which of them are maximally specific (JVM Specification SE 8, 5.4.3.3).
use Rattle.std.specs.Prelude.{◌≡◌, ℕ, Bool, true, false, List, Option, Some, None, ◌&&◌}
use Rattle.std.specs.Ordering.{is_gt, nat_cmp}
use Rattle.std.specs.Cmp.Lexicographic.{slice_cmp}
use Rattle.cf_class.specs.declared.class_file.ClassFile.{ClassFile}
use Rattle.hi_tree.specs.declared.known.Up.TheVariants.{Supertypes}
use Rattle.hi_tree.specs.Classes.{Known, known_class}
use Rattle.hi_tree.specs.Supers.{climb}
use Rattle.hi_tree.specs.Sought.{nothing_sought}
use Rattle.hi_tree.specs.Methods.{declared, declared_some, is_interface_class, is_virtual_some, has_body_some}
use Rattle.hi_tree.specs.Subtypes.{supertypes}
use Rattle.hi_tree.specs.Walks.{Climb, IsAbove}

-- the walk over all supertypes
abbrev pub whole_climb : List ClassFile → Climb
whole_climb classes = climb classes Supertypes nothing_sought

-- an interface that declares a method which is neither private nor static
abbrev pub offers : List ℕ → List ℕ → Option Known → Bool
offers name desc None = false
offers name desc (Some k) = is_interface_class k && is_virtual_some (declared name desc k)

-- the interface is above the class, and declares such a method
pub record IsOffered (classes : List ClassFile) (class name desc interface : List ℕ) : Type 0 where
  pub above : IsAbove (supertypes classes) class interface
  pub offers : offers name desc (known_class classes interface) ≡ true

-- no interface below it declares one
pub record IsMaximal (classes : List ClassFile) (class name desc interface : List ℕ) : Type 0 where
  pub offered : IsOffered classes class name desc interface
  pub most : (other : List ℕ) → IsOffered classes class name desc other
      → IsAbove (supertypes classes) other interface → ⊥

-- it is maximally specific, and not abstract
pub record IsDefault (classes : List ClassFile) (class name desc interface : List ℕ) : Type 0 where
  pub maximal : IsMaximal classes class name desc interface
  pub body : has_body_some (declared_some name desc (known_class classes interface)) ≡ true

-- it is the only one that is
pub record IsOnlyDefault (classes : List ClassFile) (class name desc interface : List ℕ) : Type 0 where
  pub default : IsDefault classes class name desc interface
  pub only : (other : List ℕ) → IsDefault classes class name desc other → other ≡ interface

-- two of them are
pub record HasTwoDefaults (classes : List ClassFile) (class name desc : List ℕ) : Type 0 where
  pub one : List ℕ
  pub other : List ℕ
  pub first : IsDefault classes class name desc one
  pub second : IsDefault classes class name desc other
  pub differ : other ≡ one → ⊥

-- the interface of the least name that declares one
pub record IsLeast (classes : List ClassFile) (class name desc interface : List ℕ) : Type 0 where
  pub offered : IsOffered classes class name desc interface
  pub least : (other : List ℕ) → IsOffered classes class name desc other
      → is_gt (slice_cmp nat_cmp interface other) ≡ false
