-- A class that is known is built in or was read, and not both.
use Rattle.std.proofs.Common.{◌≡◌, ◌↔◌, ℕ, Bool, List, Option, Some, None, refl, sym, ap, subst, ◌∙◌}
use Rattle.std.proofs.lemmas.Option.{none-some, same_Some}
use Rattle.cf_class.specs.declared.class_file.ClassFile.{ClassFile}
use Rattle.lib_rows.specs.declared.class.Builtin.{Builtin}
use Rattle.lib_rows.specs.declared.class.Builtin.TheVariants as builtins
use Rattle.lib_rows.specs.Classes.{class_name, is_interface}
use Rattle.hi_tree.specs.Classes.{Known, built_in, read, builtin_of, class_in, known_class, first_known, file_of}
use Rattle.hi_tree.specs.Classes.{read_in}
use Rattle.hi_tree.specs.Methods.{is_interface_class}
use Rattle.bd_core.specs.Given.{IsRead}
use Rattle.bd_refusals.specs.Suited.{HasKind, built_in as of_builtin, of_file}

-- a built-in class is found under its name
pub builtin_at : (b : Builtin) → builtin_of (class_name b) ≡ Some b
unfolding builtin_of
builtin_at builtins.Object = refl
builtin_at builtins.String = refl
builtin_at builtins.StringBuilder = refl
builtin_at builtins.Class = refl
builtin_at builtins.System = refl
builtin_at builtins.PrintStream = refl
builtin_at builtins.Throwable = refl
builtin_at builtins.Exception = refl
builtin_at builtins.Error = refl
builtin_at builtins.RuntimeException = refl
builtin_at builtins.AssertionError = refl
builtin_at builtins.ArithmeticException = refl
builtin_at builtins.ArrayStoreException = refl
builtin_at builtins.ClassCastException = refl
builtin_at builtins.IllegalArgumentException = refl
builtin_at builtins.IllegalStateException = refl
builtin_at builtins.IndexOutOfBoundsException = refl
builtin_at builtins.NegativeArraySizeException = refl
builtin_at builtins.NullPointerException = refl
builtin_at builtins.UnsupportedOperationException = refl
builtin_at builtins.ArrayIndexOutOfBoundsException = refl
builtin_at builtins.StringIndexOutOfBoundsException = refl
builtin_at builtins.NumberFormatException = refl
builtin_at builtins.Comparable = refl
builtin_at builtins.CharSequence = refl
builtin_at builtins.Cloneable = refl
builtin_at builtins.Serializable = refl

pub known_builtin : (classes : List ClassFile) (name : List ℕ) (b : Builtin) → name ≡ class_name b
    → known_class classes name ≡ Some (built_in b)
unfolding known_class
known_builtin classes name b e =
    ap (λ (o : Option Builtin). first_known o (class_in classes name)) (ap builtin_of e ∙ builtin_at b)

abbrev is_built_in : Known → Type 0
is_built_in (built_in b) = Unit {0}
is_built_in (read c) = ⊥

-- what was read is not built in
pub not_both : (classes : List ClassFile) (name : List ℕ) (b : Builtin) (c : ClassFile) → name ≡ class_name b
    → IsRead classes name c → ⊥
not_both classes name b c e is_read =
    subst is_built_in (same_Some (built_in b) (read c) (sym (known_builtin classes name b e) ∙ is_read)) tt

file_only : (k : Option Known) (c : ClassFile) → file_of k ≡ Some c → k ≡ Some (read c)
file_only None c e = absurd (none-some c e)
file_only (Some (built_in b)) c e = absurd (none-some c e)
file_only (Some (read d)) c e = ap (λ (f : ClassFile). Some (read f)) (same_Some d c e)

pub read_file : (classes : List ClassFile) (name : List ℕ) (c : ClassFile) → read_in classes name ≡ Some c
    → IsRead classes name c
read_file classes name c e = file_only (known_class classes name) c e

-- the kind by what was found
module _ (classes : List ClassFile) (name : List ℕ) where
  pub kind_builtin : (b : Builtin) (found : Bool) → name ≡ class_name b
      → ((a : Builtin) → name ≡ class_name a → Some b ≡ Some a) → found ≡ is_interface b
      → (kind : Bool) → (Some found ≡ Some kind) ↔ HasKind classes name kind
  kind_builtin b found e only same kind = (
    λ is. subst (HasKind classes name) (sym same ∙ same_Some found kind is) (of_builtin b e),
    λ has. ap (λ (k : Bool). Some k) same ∙ back kind has,
  )
    where
      back : (k : Bool) → HasKind classes name k → Some (is_interface b) ≡ Some k
      back _ (of_builtin a f) = ap (λ (x : Builtin). Some (is_interface x)) (same_Some b a (only a f))
      back _ (of_file c is_read) = absurd (not_both classes name b c e is_read)

  pub kind_read : (c : ClassFile) (found : Bool) → IsRead classes name c
      → ((a : Builtin) → name ≡ class_name a → None ≡ Some a) → found ≡ is_interface_class (read c)
      → (kind : Bool) → (Some found ≡ Some kind) ↔ HasKind classes name kind
  kind_read c found is_read only same kind = (
    λ is. subst (HasKind classes name) (sym same ∙ same_Some found kind is) (of_file c is_read),
    λ has. ap (λ (k : Bool). Some k) same ∙ back kind has,
  )
    where
      back : (k : Bool) → HasKind classes name k → Some (is_interface_class (read c)) ≡ Some k
      back _ (of_builtin a f) = absurd (none-some a (only a f))
      back _ (of_file d other) =
          ap (λ (x : Known). Some (is_interface_class x))
          (same_Some (read c) (read d) (sym is_read ∙ other))

  pub kind_none : read_in classes name ≡ None → ((a : Builtin) → name ≡ class_name a → None ≡ Some a)
      → (kind : Bool) → (None ≡ Some kind) ↔ HasKind classes name kind
  kind_none none only kind = (λ is. absurd (none-some kind is), back kind)
    where
      back : (k : Bool) → HasKind classes name k → None ≡ Some k
      back _ (of_builtin a f) = absurd (none-some a (only a f))
      back _ (of_file d other) = absurd (none-some d (sym none ∙ ap file_of other))
