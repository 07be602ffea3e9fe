-- Which members a class declares (JVM Specification SE 8, 4.5 and 4.6).
use Rattle.std.specs.Prelude.{ℕ, ◌/◌, ◌%◌, Bool, false, List, [], ◌∷◌, is_some, ◌&&◌, codes, nat_eq}
use Rattle.std.specs.List.{list_any}
use Rattle.std.specs.Str.{bytes_eq}
use Rattle.cf_class.specs.Members.{member_in}
use Rattle.lib_rows.specs.declared.class.Builtin.{Builtin}
use Rattle.lib_rows.specs.declared.class.Builtin.TheVariants.{System}
use Rattle.hi_tree.specs.Classes.{Known, built_in, read}

-- the fields of built-in classes: `out` and `err` of java.lang.System
abbrev pub is_builtin_field : List ℕ → List ℕ → Builtin → Bool
is_builtin_field name desc System =
    list_any (λ n. bytes_eq name n) (codes "out" ∷ codes "err" ∷ []) && bytes_eq desc (codes "Ljava/io/PrintStream;")
is_builtin_field name desc other = false

-- whether a class declares a field
abbrev pub declares_field : List ℕ → List ℕ → Known → Bool
declares_field name desc (built_in b) = is_builtin_field name desc b
declares_field name desc (read c) = is_some (member_in name desc c.fields)

-- a flag, one bit, is set
abbrev pub has_flag : ℕ → ℕ → Bool
has_flag flags flag = nat_eq (flags / flag % 2) 1
