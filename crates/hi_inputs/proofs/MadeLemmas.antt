-- Classes of which objects can be made.
use Rattle.std.proofs.Common.{◌≡◌, ℕ, Bool, true, false, List, Option, Some, None, refl, sym, ◌∙◌, ap, true≢false}
use Rattle.std.specs.Prelude.{◌↔◌, IsTrue, not}
use Rattle.std.proofs.lemmas.Option.{none-some, same_Some}
use Rattle.cf_class.specs.declared.class_file.ClassFile.{ClassFile}
use Rattle.lib_rows.specs.declared.class.Builtin.{Builtin}
use Rattle.hi_tree.specs.Classes.{builtin_of, class_in, known_class, first_known, file_of, read_in}
use Rattle.hi_tree.specs.Members.{has_flag}
use Rattle.hi_tree.specs.Inputs.{IsMade}

module _ (classes : List ClassFile) (name : List ℕ) where
  read_as : (b : Option Builtin) (o : Option ClassFile) → builtin_of name ≡ b → class_in classes name ≡ o
      → read_in classes name ≡ file_of (first_known b o)
  unfolding known_class
  read_as b o is at = λ i. file_of (first_known (is i) (at i))

  -- what is read is a class file, and no built-in class has the name
  read_parts : (c : ClassFile) → read_in classes name ≡ Some c
      → (class_in classes name ≡ Some c) × (builtin_of name ≡ None)
  read_parts c e = by (builtin_of name) (class_in classes name) refl refl
    where
      by : (b : Option Builtin) (o : Option ClassFile) → builtin_of name ≡ b → class_in classes name ≡ o
          → (class_in classes name ≡ Some c) × (builtin_of name ≡ None)
      by (Some b) o is at = absurd (none-some c (sym (read_as (Some b) o is at) ∙ e))
      by None None is at = absurd (none-some c (sym (read_as None None is at) ∙ e))
      by None (Some d) is at = (at ∙ sym (read_as None (Some d) is at) ∙ e, is)

  made_read : (c : ClassFile) → IsMade classes name c → read_in classes name ≡ Some c
  made_read c m = read_as None (Some c) m.not_built_in m.read

  pub none_made : read_in classes name ≡ None → (c : ClassFile) × IsMade classes name c → ⊥
  none_made e m = none-some m.0 (sym e ∙ made_read m.0 m.1)

  module _ (c : ClassFile) (e : read_in classes name ≡ Some c) where
    same_made : (d : ClassFile) → IsMade classes name d → c ≡ d
    same_made d m = same_Some c d (sym e ∙ made_read d m)

    pub abstract_unmade : has_flag c.flags 0x0400 ≡ true → (d : ClassFile) × IsMade classes name d → ⊥
    abstract_unmade is m =
        true≢false (sym is ∙ ap (λ (x : ClassFile). has_flag x.flags 0x0400) (same_made m.0 m.1) ∙ m.1.not_abstract)

    interface_unmade : has_flag c.flags 0x0200 ≡ true → (d : ClassFile) × IsMade classes name d → ⊥
    interface_unmade is m =
        true≢false (sym is ∙ ap (λ (x : ClassFile). has_flag x.flags 0x0200) (same_made m.0 m.1) ∙ m.1.not_interface)

    pub made_unless : has_flag c.flags 0x0400 ≡ false
        → IsTrue (not (has_flag c.flags 0x0200)) ↔ ((d : ClassFile) × IsMade classes name d)
    made_unless plain = by (has_flag c.flags 0x0200) refl
      where
        by : (b : Bool) → has_flag c.flags 0x0200 ≡ b → IsTrue (not b) ↔ ((d : ClassFile) × IsMade classes name d)
        by true is = (λ h. absurd (true≢false (sym h)), λ m. absurd (interface_unmade is m))
        by false is = (
          λ h.
              let parts = read_parts c e in
              (c, record { read = parts.0; not_built_in = parts.1; not_abstract = plain; not_interface = is }),
          λ m. refl,
        )
