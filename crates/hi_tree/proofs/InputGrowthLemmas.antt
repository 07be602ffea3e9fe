-- What inputs have stays as a table grows.
use Rattle.std.proofs.Common.{◌≡◌, ℕ, ◌++◌, List, [], ◌∷◌, ◌⊎◌, inl, inr, Option, Some, None, sym, ◌∙◌, ap, refl}
use Rattle.std.specs.Option.{option_or}
use Rattle.std.specs.List.{find}
use Rattle.std.specs.Str.{bytes_eq}
use Rattle.std.proofs.lemmas.List.Folds.{find-append}
use Rattle.std.proofs.lemmas.Option.{none-some}
use Rattle.cf_class.specs.declared.class_file.ClassFile.{ClassFile}
use Rattle.lib_rows.specs.declared.class.Builtin.{Builtin}
use Rattle.jv_base.specs.Descriptor.{FieldType}
use Rattle.jv_base.specs.declared.method.MethodId.{MethodId}
use Rattle.hi_tree.specs.declared.known.Up.{Up}
use Rattle.hi_tree.specs.declared.known.Up.TheVariants.{Superclasses}
use Rattle.hi_tree.specs.Classes.{Known, read, builtin_of, class_in, file_of, known_class}
use Rattle.hi_tree.specs.Supers.{names_above_some}
use Rattle.hi_tree.specs.Inputs.{superclasses, IsMade, HasField, StandsAt, receiver, parameter, element, field}
use Rattle.hi_tree.specs.Growth.{Grows, KeepsFiles, Keeps}
use Rattle.hi_tree.specs.Walks.{IsAbove}
use Rattle.hi_tree.proofs.KnownLemmas.{known_from}
use Rattle.hi_tree.proofs.GrowthLemmas.{above_kept}
use Rattle.hi_tree.proofs.AnswerGrowthLemmas.{resolved_kept, field_kept, selected_kept, special_kept}

-- a class file that a built-in class does not hide is the one that is known
known_read : (classes : List ClassFile) (name : List ℕ) (c : ClassFile) → builtin_of name ≡ None
    → known_class classes name ≡ Some (read c) → class_in classes name ≡ Some c
known_read classes name c none e = by (class_in classes name) refl
  where
    by : (o : Option ClassFile) → class_in classes name ≡ o → class_in classes name ≡ Some c
    by None f = absurd (none-some (read c) (sym (known_from classes name None None none f) ∙ e))
    by (Some d) f = f ∙ ap file_of (sym (known_from classes name None (Some d) none f) ∙ e)

module _ (classes more : List ClassFile) (grows : Grows classes more) where
  made_kept : (name : List ℕ) (c : ClassFile) → IsMade classes name c → IsMade more name c
  made_kept name c is = record {
    read = known_read more name c is.not_built_in
        (grows name (read c) (known_from classes name None (Some c) is.not_built_in is.read));
    not_built_in = is.not_built_in;
    not_abstract = is.not_abstract;
    not_interface = is.not_interface;
  }

  module _ (files : KeepsFiles classes more) where
    upward_kept : (name class : List ℕ) → (name ≡ class) ⊎ IsAbove (superclasses classes) name class
        → (name ≡ class) ⊎ IsAbove (superclasses more) name class
    upward_kept name class (inl same) = inl same
    upward_kept name class (inr up) = inr (above_kept classes more grows Superclasses up)

    has_field_kept : (name : List ℕ) (t : FieldType) → HasField classes name t → HasField more name t
    has_field_kept name t has = record {
      class = has.class;
      above = upward_kept name has.class has.above;
      file = has.file;
      read = files has.class has.file has.read;
      field = has.field;
      there = has.there;
      not_static = has.not_static;
      form = has.form;
      type = has.type;
    }

    stands_kept : (entry : MethodId) (depth : ℕ) {at : ℕ} {t : FieldType} → StandsAt classes entry depth at t
        → StandsAt more entry depth at t
    stands_kept entry depth (receiver c m is declared instance) =
        receiver c m (files entry.class c is) declared instance
    stands_kept entry depth (parameter m t is text there) = parameter m t is text there
    stands_kept entry depth (element d array dimensions within many stands) =
        element d array dimensions within many (stands_kept entry depth stands)
    stands_kept entry depth (field d name c t within made has stands) =
        field d name c t within (made_kept name c made) (has_field_kept name t has) (stands_kept entry depth stands)

  above_same : (up : Up) (name : List ℕ) (k : Known) → known_class classes name ≡ Some k
      → names_above_some up (known_class more name) ≡ names_above_some up (known_class classes name)
  above_same up name k e = ap (λ (o : Option Known). names_above_some up o) (grows name k e ∙ sym e)

  pub keeps : Keeps classes more
  keeps = record {
    resolved = λ interface at m is. resolved_kept classes more grows interface at m is;
    field = λ at f is. field_kept classes more grows at f is;
    selected = λ class m s is. selected_kept classes more grows class m s is;
    special = λ caller interface at m is. special_kept classes more grows caller interface at m is;
    made = made_kept;
    inputs = λ files entry depth at t is. stands_kept files entry depth is;
    above = above_same;
  }

-- a table that keeps its class files keeps what is known
pub files_grow : (classes more : List ClassFile) → KeepsFiles classes more → Grows classes more
files_grow classes more files name k e = by (builtin_of name) (class_in classes name) refl refl
  where
    by : (b : Option Builtin) (o : Option ClassFile) → builtin_of name ≡ b → class_in classes name ≡ o
        → known_class more name ≡ Some k
    by (Some b) o is at =
        known_from more name (Some b) (class_in more name) is refl ∙ sym (known_from classes name (Some b) o is at) ∙ e
    by None (Some c) is at =
        known_from more name None (Some c) is (files name c at) ∙ sym (known_from classes name None (Some c) is at) ∙ e
    by None None is at = absurd (none-some k (sym (known_from classes name None None is at) ∙ e))

-- a class that is put in at the end leaves the others as they were
pub added_files : (classes : List ClassFile) (c : ClassFile) → KeepsFiles classes (classes ++ c ∷ [])
unfolding class_in
added_files classes c name d e =
    find-append (λ (x : ClassFile). bytes_eq name x.this_class.name) classes (c ∷ [])
    ∙ ap (λ (o : Option ClassFile). option_or o (find (λ (x : ClassFile). bytes_eq name x.this_class.name) (c ∷ []))) e
