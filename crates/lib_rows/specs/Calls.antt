-- What serves the proofs alone: searches in the tables.
use Rattle.std.specs.Prelude.{ℕ, List, [], ◌∷◌, Option, Some, None, if◌then◌else◌}
use Rattle.std.specs.Str.{bytes_eq}
use Rattle.lib_rows.specs.declared.class.Builtin.{Builtin}
use Rattle.lib_rows.specs.Classes.{class_name}

-- the first class of the name
abbrev pub class_in : List Builtin → List ℕ → Option Builtin
class_in [] name = None
class_in (class ∷ classes) name = if bytes_eq (class_name class) name then Some class else class_in classes name
