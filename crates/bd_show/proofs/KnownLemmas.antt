-- A class that is known by its file was read.
use Rattle.std.proofs.Common.{◌≡◌, ℕ, List, Option, Some, None, sym, ap, subst, ◌∙◌}
use Rattle.std.proofs.lemmas.Option.{none-some, same_Some}
use Rattle.lib_rows.specs.declared.class.Builtin.{Builtin}
use Rattle.cf_class.specs.declared.class_file.ClassFile.{ClassFile}
use Rattle.hi_tree.specs.Classes.{Known, built_in, read, builtin_of, class_in, known_class, first_known}

abbrev is_built_in : Known → Type 0
is_built_in (built_in b) = Unit {0}
is_built_in (read c) = ⊥

without_file : (b : Option Builtin) (c : ClassFile) → first_known b None ≡ Some (read c) → ⊥
without_file None c e = none-some (read c) e
without_file (Some b) c e = subst is_built_in (same_Some (built_in b) (read c) e) tt

pub read_is_there : (classes : List ClassFile) (name : List ℕ) (c : ClassFile)
    → known_class classes name ≡ Some (read c) → class_in classes name ≡ None → ⊥
unfolding known_class
read_is_there classes name c e none =
    without_file (builtin_of name) c
    (sym (ap (λ (o : Option ClassFile). first_known (builtin_of name) o) none) ∙ e)
