-- What stands one deeper than a type.
use Rattle.std.proofs.Common.{◌≡◌, ℕ, suc, List, sym, ap, subst, ◌∙◌, inl, inr, arith}
use Rattle.std.specs.Prelude.{◌↔◌}
use Rattle.cf_class.specs.declared.class_file.ClassFile.{ClassFile}
use Rattle.jv_base.specs.Descriptor.{ElementType, base, object, FieldType}
use Rattle.hi_tree.specs.Inputs.{IsMade, HasField}
use Rattle.hi_tree.specs.declared.known.Up.TheVariants.{Superclasses}
use Rattle.hi_inputs.specs.Upward.{AreUpward}
use Rattle.hi_inputs.specs.Calls.Below.{DeclaresType, IsBelow, IsBelowElement}
use Rattle.hi_inputs.proofs.AddLemmas.{Each}

module _ (classes : List ClassFile) where
  -- the types of fields of objects are those that a class upward declares
  pub has_each : (name : List ℕ) (names : List (List ℕ)) → AreUpward classes Superclasses name names
      → (t : FieldType) → Each (DeclaresType classes) names t ↔ HasField classes name t
  has_each name names upward t = (
    λ e.
        let file = e.2.0 in
        let field = e.2.2.0 in
        let is = e.2.2.2 in
        record {
          class = e.0;
          above = (upward e.0).0 e.1;
          file = file;
          read = e.2.1;
          field = field;
          there = e.2.2.1;
          not_static = is.not_static;
          form = is.form;
          type = is.type;
        },
    λ h. (
      h.class,
      (upward h.class).1 h.above,
      (h.file, h.read, (h.field, h.there, record { not_static = h.not_static; form = h.form; type = h.type })),
    ),
  )

  class_of : ElementType → List ℕ → List ℕ
  class_of (object name) other = name
  class_of (base letter) other = other

  pub same_class : (a b : List ℕ) → object a ≡ object b → a ≡ b
  unfolding class_of
  same_class a b e = ap (λ x. class_of x a) e

  -- the fields of a class of which objects can be made
  pub below_made : (element : ElementType) (name : List ℕ) → element ≡ object name
      → (c : ClassFile) × IsMade classes name c
      → (t : FieldType) → HasField classes name t ↔ IsBelowElement classes element t
  below_made element name is made t = (
    λ has. (name, is, made, has),
    λ b. subst (λ n. HasField classes n t) (same_class b.0 name (sym b.1 ∙ is)) b.3,
  )

  -- what is no array has fields alone below
  pub below_flat : (u : FieldType) → u.dimensions ≡ 0
      → (t : FieldType) → IsBelowElement classes u.element t ↔ IsBelow classes u t
  below_flat u none t = (λ b. inr (none, b), λ h. from h)
    where
      from : IsBelow classes u t → IsBelowElement classes u.element t
      from (inl b) = let many : u.dimensions ≡ suc t.dimensions = b.0 in absurd (omega (arith, none, many))
      from (inr b) = b.1
