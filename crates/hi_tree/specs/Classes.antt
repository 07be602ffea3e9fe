-- The classes that are known: the built-in ones, and those that were read.
use Rattle.std.specs.Prelude.{ℕ, List, Option, Some, None}
use Rattle.std.specs.List.{find}
use Rattle.std.specs.Str.{bytes_eq}
use Rattle.cf_class.specs.declared.class_file.ClassFile.{ClassFile}
use Rattle.lib_rows.specs.declared.class.Builtin.{Builtin}
use Rattle.lib_rows.specs.Classes.{class_name}
use Rattle.lib_rows.specs.Classes as builtin

-- the class that was read under a name
unfoldable pub class_in : List ClassFile → List ℕ → Option ClassFile
class_in classes name = find (λ c. bytes_eq name c.this_class.name) classes

-- the built-in class of a name
unfoldable pub builtin_of : List ℕ → Option Builtin
builtin_of name = find (λ b. bytes_eq name (class_name b)) builtin.classes

-- what is known under a name
pub data Known : Type 0 where
  built_in : Builtin → Known
  read : ClassFile → Known

abbrev pub first_known : Option Builtin → Option ClassFile → Option Known
first_known (Some b) c = Some (built_in b)
first_known None (Some c) = Some (read c)
first_known None None = None

-- a built-in class stands before one that was read under its name
unfoldable pub known_class : List ClassFile → List ℕ → Option Known
known_class classes name = first_known (builtin_of name) (class_in classes name)

-- the class file of what is known, if a class file alone makes it known
abbrev pub file_of : Option Known → Option ClassFile
file_of (Some (read c)) = Some c
file_of other = None

-- the class file that was read under a name, where the class is not built in
abbrev pub read_in : List ClassFile → List ℕ → Option ClassFile
read_in classes name = file_of (known_class classes name)
