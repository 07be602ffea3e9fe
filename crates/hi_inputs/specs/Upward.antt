-- A class and those above it.
use Rattle.std.specs.Prelude.{◌≡◌, ◌↔◌, ◌⊎◌, ℕ, List, Contains}
use Rattle.cf_class.specs.declared.class_file.ClassFile.{ClassFile}
use Rattle.hi_tree.specs.declared.known.Up.{Up}
use Rattle.hi_tree.specs.Classes.{known_class}
use Rattle.hi_tree.specs.Supers.{names_above_some}
use Rattle.hi_tree.specs.Walks.{IsAbove}

-- the names directly above a class
abbrev pub names_up : List ClassFile → Up → List ℕ → List (List ℕ)
names_up classes up name = names_above_some up (known_class classes name)

-- exactly a class and those above it
abbrev pub AreUpward : List ClassFile → Up → List ℕ → List (List ℕ) → Type 0
AreUpward classes up name names =
    (class : List ℕ) → Contains names class ↔ ((name ≡ class) ⊎ IsAbove (names_up classes up) name class)
