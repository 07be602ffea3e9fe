-- The built-in class of a name.
use Rattle.std.proofs.Common.{◌≡◌, ℕ, Bool, true, false, cond, List, [], ◌∷◌, Option, Some, None, sym, ◌∙◌, ap, refl}
use Rattle.std.specs.Prelude.{IfSome}
use Rattle.std.specs.List.{find}
use Rattle.std.specs.Str.{bytes_eq}
use Rattle.std.proofs.lemmas.Option.{same_Some, none-some}
use Rattle.std.proofs.lemmas.Slice.Eq.{bytes_eq-Decides}
use Rattle.lib_rows.specs.declared.class.Builtin.{Builtin}
use Rattle.lib_rows.specs.declared.class.Builtin.TheVariants.{Object}
use Rattle.lib_rows.specs.Classes.{class_name}
use Rattle.lib_rows.specs.Classes as builtin
use Rattle.cf_class.specs.declared.class_file.ClassFile.{ClassFile}
use Rattle.hi_tree.specs.Classes.{built_in, builtin_of, class_in, known_class, first_known, file_of, read_in}

-- each class is the first of its name
pub named_first : (class : Builtin) → builtin_of (class_name class) ≡ Some class
unfolding builtin_of
named_first Object = refl
named_first other = refl

pub find_passes : {X : Type 0} (test : X → Bool) (xs : List X) (x : X) → find test xs ≡ Some x → test x ≡ true
find_passes test [] x e = absurd (none-some x e)
find_passes {X} test (y ∷ ys) x e = by (test y) refl (λ h. find_passes test ys x h)
  where
    by : (t : Bool) → test y ≡ t → (find test ys ≡ Some x → test x ≡ true) → test x ≡ true
    by true is rest = ap test (sym (same_Some y x (sym (ap (λ (t : Bool). cond t (Some y) (find test ys)) is)
        ∙ e))) ∙ is
    by false is rest = rest (sym (ap (λ (t : Bool). cond t (Some y) (find test ys)) is) ∙ e)

pub builtin_has_name : (name : List ℕ) (class : Builtin) → builtin_of name ≡ Some class → name ≡ class_name class
unfolding builtin_of
builtin_has_name name class e =
    (bytes_eq-Decides name (class_name class)).0 (find_passes (λ (b : Builtin). bytes_eq name
    (class_name b)) builtin.classes class e)

pub builtin_is : (name : List ℕ) (found : Option Builtin) → IfSome found (λ class. name ≡ class_name class)
    → ((class : Builtin) → name ≡ class_name class → found ≡ Some class) → builtin_of name ≡ found
builtin_is name (Some class) is only = ap builtin_of is ∙ named_first class
builtin_is name None is only = by (builtin_of name) refl
  where
    by : (o : Option Builtin) → builtin_of name ≡ o → builtin_of name ≡ None
    by None e = e
    by (Some class) e = absurd (none-some class (only class (builtin_has_name name class e)))

module _ (classes : List ClassFile) where
  pub known_builtin : (class : Builtin) → known_class classes (class_name class) ≡ Some (built_in class)
  unfolding known_class
  known_builtin class = ap (λ (o : Option Builtin). first_known o (class_in classes (class_name class)))
      (named_first class)

  pub known_from : (name : List ℕ) (b : Option Builtin) (c : Option ClassFile) → builtin_of name ≡ b
      → class_in classes name ≡ c
      → known_class classes name ≡ first_known b c
  unfolding known_class
  known_from name b c e f = ap (λ (o : Option Builtin). first_known o (class_in classes name)) e
      ∙ ap (λ (o : Option ClassFile). first_known b o) f

  pub known_named : (name : List ℕ) (class : Builtin) → builtin_of name ≡ Some class
      → known_class classes name ≡ Some (built_in class)
  unfolding known_class
  known_named name b e = ap (λ (o : Option Builtin). first_known o (class_in classes name)) e

  -- a class file stands for its name where no built-in class has that
  pub read_plain : (name : List ℕ) → builtin_of name ≡ None → read_in classes name ≡ class_in classes name
  read_plain name none = by (class_in classes name) refl
    where
      by : (o : Option ClassFile) → class_in classes name ≡ o → read_in classes name ≡ class_in classes name
      by None e = ap file_of (known_from name None None none e) ∙ sym e
      by (Some c) e = ap file_of (known_from name None (Some c) none e) ∙ sym e

  pub read_builtin : (name : List ℕ) (class : Builtin) → builtin_of name ≡ Some class → read_in classes name ≡ None
  read_builtin name class e = ap file_of (known_named name class e)
