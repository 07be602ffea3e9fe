-- Which class files have supertypes that they may not have (JVM Specification SE 8, 4.1 and 5.3.5): superclasses that are
-- interfaces, superinterfaces that are classes, built-in classes that are not extended, and themselves.
use Rattle.std.specs.Prelude.{◌≡◌, ◌↔◌, ◌⊎◌, ℕ, Bool, true, false, List, Some, Contains}
use Rattle.cf_class.specs.declared.class_file.ClassFile.{ClassFile}
use Rattle.lib_rows.specs.Classes.{class_name, superclass_of, is_interface}
use Rattle.lib_rows.specs.declared.class.Builtin.{Builtin}
use Rattle.lib_rows.specs.declared.class.Builtin.TheVariants.{Object, Throwable}
use Rattle.hi_tree.specs.Classes.{read, class_in}
use Rattle.hi_tree.specs.Methods.{is_interface_class}
use Rattle.hi_tree.specs.Supers.{superinterface_names}
use Rattle.hi_tree.specs.Subtypes.{supertypes}
use Rattle.hi_tree.specs.Walks.{IsAbove}
use Rattle.bd_core.specs.Given.{IsRead}

-- java.lang.Throwable, and the built-in classes under it
pub data IsThrowable : Builtin → Type 0 where
  itself : IsThrowable Throwable
  under : (b super : Builtin) → superclass_of b ≡ Some super → IsThrowable super → IsThrowable b

-- a class file may have this built-in class as its superclass
abbrev pub IsOpen : Builtin → Type 0
IsOpen b = (b ≡ Object) ⊎ IsThrowable b

-- a class that is known is an interface, or is none
pub data HasKind (classes : List ClassFile) (name : List ℕ) : Bool → Type 0 where
  built_in : (b : Builtin) → name ≡ class_name b → HasKind classes name (is_interface b)
  of_file : (c : ClassFile) → IsRead classes name c → HasKind classes name (is_interface_class (read c))

-- A class file has a supertype that is unsuited: another built-in class or an interface as its superclass, as an interface
-- another superclass than Object, or a class among its superinterfaces. Only supertypes that are known are judged.
pub data HasUnsuited (classes : List ClassFile) (c : ClassFile) : Type 0 where
  closed : (b : Builtin) → c.super_class.name ≡ class_name b → (IsOpen b → ⊥) → HasUnsuited classes c
  interface : HasKind classes c.super_class.name true → HasUnsuited classes c
  no_object : (kind : Bool) → HasKind classes c.super_class.name kind → is_interface_class (read c) ≡ true
      → (c.super_class.name ≡ class_name Object → ⊥) → HasUnsuited classes c
  as_interface : (name : List ℕ) → Contains (superinterface_names (read c)) name → HasKind classes name false
      → HasUnsuited classes c

-- a class is among its own supertypes
abbrev pub IsCircular : List ClassFile → List ℕ → Type 0
IsCircular classes name = IsAbove (supertypes classes) name name

-- neither holds of a class file
pub record IsSuited (classes : List ClassFile) (c : ClassFile) : Type 0 where
  pub not_circular : IsCircular classes c.this_class.name → ⊥
  pub no_unsuited : HasUnsuited classes c → ⊥

-- the class file of a name, where neither holds of it
abbrev pub IsSuitedIn : List ClassFile → List ℕ → ClassFile → Type 0
IsSuitedIn classes name c = (class_in classes name ≡ Some c) × IsSuited classes c

-- the table without the class files of which one holds
abbrev pub AreSuited : List ClassFile → List ClassFile → Type 0
AreSuited classes suited = (name : List ℕ) (c : ClassFile) → (class_in suited name ≡ Some c) ↔ IsSuitedIn classes name c

-- the same of some names alone
abbrev pub AreSuitedOf : List ClassFile → List (List ℕ) → List ClassFile → Type 0
AreSuitedOf classes names suited = (name : List ℕ) (c : ClassFile) → (class_in suited name ≡ Some c)
    ↔ (Contains names name × IsSuitedIn classes name c)
