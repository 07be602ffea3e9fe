-- Direct supertypes (JVM Specification SE 8, 4.1: super_class and interfaces).
use Rattle.std.specs.Prelude.{ℕ, Bool, false, List, [], ◌∷◌, ◌++◌, Option, Some, None, map, is_some}
use Rattle.cf_class.specs.declared.class_file.ClassFile.{ClassFile}
use Rattle.lib_rows.specs.declared.class.Builtin.{Builtin}
use Rattle.lib_rows.specs.Classes.{class_name, superclass_of, superinterfaces_of}
use Rattle.hi_tree.specs.declared.known.Up.{Up}
use Rattle.lib_rows.specs.declared.class.Builtin.TheVariants as builtins
use Rattle.hi_tree.specs.declared.known.Up.TheVariants.{Superclasses, Supertypes, ObjectAlone}
use Rattle.hi_tree.specs.Classes.{Known, built_in, read, known_class}
use Rattle.hi_tree.specs.Walks.{Climb}

abbrev pub builtin_names : Option Builtin → List (List ℕ)
builtin_names None = []
builtin_names (Some b) = class_name b ∷ []

-- the direct superclass, if there is one
abbrev pub superclass_names : Known → List (List ℕ)
superclass_names (built_in b) = builtin_names (superclass_of b)
superclass_names (read c) = c.super_class.name ∷ []

-- the direct superinterfaces, in order
abbrev pub superinterface_names : Known → List (List ℕ)
superinterface_names (built_in b) = map class_name (superinterfaces_of b)
superinterface_names (read c) = map (λ n. n.name) c.interfaces

-- java.lang.Object is above each other class
abbrev pub object_names : Known → List (List ℕ)
object_names (built_in builtins.Object) = []
object_names other = class_name builtins.Object ∷ []

-- the superclass alone, or Object alone, or the superinterfaces in order and then the superclass
abbrev pub names_above : Up → Known → List (List ℕ)
names_above Superclasses k = superclass_names k
names_above ObjectAlone k = object_names k
names_above Supertypes k = superinterface_names k ++ superclass_names k

abbrev pub names_above_some : Up → Option Known → List (List ℕ)
names_above_some up None = []
names_above_some up (Some k) = names_above up k

abbrev pub sought_some : (Known → Bool) → Option Known → Bool
sought_some test None = false
sought_some test (Some k) = test k

-- a walk over a table
abbrev pub climb : List ClassFile → Up → (List ℕ → Known → Bool) → Climb
climb classes up sought = record {
  known = λ name. is_some (known_class classes name);
  supers = λ name. names_above_some up (known_class classes name);
  sought = λ name. sought_some (sought name) (known_class classes name);
}
