-- For private functions and proofs alone: which methods are private, and what the walk over the superclasses of a
-- caller's class tells.
use Rattle.std.specs.Prelude.{ℕ, Bool, true, false, List, Option, Some, None, Contains}
use Rattle.cf_class.specs.declared.class_file.ClassFile.{ClassFile}
use Rattle.hi_tree.specs.declared.declared.Access.{Access}
use Rattle.hi_tree.specs.declared.declared.Access.TheVariants.{Private}
use Rattle.hi_tree.specs.declared.declared.Declared.{Declared}
use Rattle.hi_tree.specs.declared.known.Above.{Above}
use Rattle.hi_tree.specs.declared.known.Up.TheVariants.{Superclasses}
use Rattle.hi_tree.specs.Classes.{known_class}
use Rattle.hi_tree.specs.Supers.{names_above_some}
use Rattle.hi_tree.specs.Special.{superclass_climb}
use Rattle.hi_tree.specs.Walks.{IsClean, Stops, found}
use Rattle.hi_tree.specs.Calls.Steps.{above_name}

abbrev pub is_private : Access → Bool
is_private Private = true
is_private other = false

-- what a class says of a method that it declares as private
abbrev pub is_private_some : Option Declared → Bool
is_private_some None = false
is_private_some (Some d) = is_private d.access

-- a class stands directly above the caller's class, and the named class is a superclass of it; or it is none
abbrev pub IsSuperCall : List ClassFile → List ℕ → List ℕ → Option Above → Type 0
IsSuperCall classes caller top None = IsClean (superclass_climb classes top) caller
IsSuperCall classes caller top (Some a) = Stops (superclass_climb classes top) caller (found top)
    × Contains (names_above_some Superclasses (known_class classes caller)) (above_name a)
