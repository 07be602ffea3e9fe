-- What the rules read from a row of the library.
use Rattle.std.specs.Prelude.{Bool, true, false, List, [], ◌∷◌, ◌++◌, is_some, if◌then◌else◌}
use Rattle.lib_rows.specs.declared.class.Builtin.{Builtin}
use Rattle.lib_rows.specs.declared.class.Builtin.TheVariants.{NullPointerException, StringIndexOutOfBoundsException}
use Rattle.lib_rows.specs.declared.method.LibMethod.{LibMethod}
use Rattle.lib_rows.specs.declared.method.LibMethod.TheVariants as rows
use Rattle.lib_rows.specs.Methods.{null_argument, has_index}

-- whether it gives a String
abbrev pub gives_text : LibMethod → Bool
gives_text rows.StringTail = true
gives_text rows.StringSubstring = true
gives_text rows.StringConcat = true
gives_text rows.StringOfInt = true
gives_text rows.StringOfChar = true
gives_text rows.StringOfBoolean = true
gives_text rows.BuilderToString = true
gives_text other = false

-- the exceptions that a call of it may raise, where its receiver is not null: for a null argument, for an index
abbrev pub null_exceptions : LibMethod → List Builtin
null_exceptions row = if is_some (null_argument row) then NullPointerException ∷ [] else []

abbrev pub index_exceptions : LibMethod → List Builtin
index_exceptions row = if has_index row then StringIndexOutOfBoundsException ∷ [] else []

abbrev pub row_exceptions : LibMethod → List Builtin
row_exceptions row = null_exceptions row ++ index_exceptions row
