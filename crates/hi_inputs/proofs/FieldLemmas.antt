-- The type of a field that objects have, and the types of parameters.
use Rattle.std.proofs.Common.{◌≡◌, true, false, List, [], ◌∷◌, ◌++◌, Contains, map, sym, ap, subst, ◌∙◌}
use Rattle.std.proofs.Common.{true≢false}
use Rattle.cf_class.specs.declared.member.Member.{Member}
use Rattle.jv_base.specs.Descriptor.{FieldType, IsFieldType, IsFieldDescriptor, field_text}
use Rattle.jv_base.specs.Types.{field_of}
use Rattle.jv_base.specs.declared.value.Ty.{Ty}
use Rattle.jv_list.proofs.MemberLemmas.{in_map, from_map}
use Rattle.hi_tree.specs.Members.{has_flag}
use Rattle.hi_inputs.specs.declared.flat.FlatType.{FlatType}
use Rattle.hi_inputs.specs.Calls.Flat.{field_of_flat, AddsTypes}
use Rattle.hi_inputs.specs.Calls.Below.{IsInstanceType}
use Rattle.hi_inputs.proofs.AddLemmas.{Each, adds_none, adds_one, adds_same}

module _ (field : Member) (old : List FlatType) where
  pub adds_static : has_flag field.flags 0x0008 ≡ true → AddsTypes (IsInstanceType field) old old
  adds_static is = adds_none (IsInstanceType field) old (λ t r. true≢false (sym is ∙ r.not_static))

  pub adds_unread : (IsFieldDescriptor field.desc.name → ⊥) → AddsTypes (IsInstanceType field) old old
  adds_unread none = adds_none (IsInstanceType field) old (λ t r. none (t, r.form, r.type))

  -- no two types have one text
  abbrev pub OneText : Type 0
  OneText = (t u : FieldType) → IsFieldType t → IsFieldType u → field_text t ≡ field_text u → t ≡ u

  pub adds_read : (new : List FlatType) (ty : FieldType) (flat : FlatType) → OneText
      → has_flag field.flags 0x0008 ≡ false → (IsFieldType ty) × (field.desc.name ≡ field_text ty)
      → field_of_flat flat ≡ ty → new ≡ old ++ flat ∷ [] → AddsTypes (IsInstanceType field) old new
  adds_read new ty flat one plain found same grows =
      adds_one (IsInstanceType field) old new flat grows
      (λ t. (
        λ r. one t ty r.form found.0 (sym r.type ∙ found.1) ∙ sym same,
        λ e.
            let is : t ≡ ty = e ∙ same in
            record {
              not_static = plain;
              form = subst IsFieldType (sym is) found.0;
              type = found.1 ∙ ap field_text (sym is);
            },
      ))

-- the type that a parameter has
abbrev pub IsTypeOf : Ty → FieldType → Type 0
IsTypeOf ty t = t ≡ field_of ty

pub adds_type : (ty : Ty) (old new : List FlatType) (flat : FlatType) → field_of_flat flat ≡ field_of ty
    → new ≡ old ++ flat ∷ [] → AddsTypes (IsTypeOf ty) old new
adds_type ty old new flat same grows =
    adds_one (IsTypeOf ty) old new flat grows (λ t. (λ r. r ∙ sym same, λ e. e ∙ same))

pub adds_types : (types : List Ty) (old new : List FlatType) → AddsTypes (Each IsTypeOf types) old new
    → AddsTypes (Contains (map field_of types)) old new
adds_types types old new a =
    adds_same (Each IsTypeOf types) (Contains (map field_of types)) old new
    (λ t. (
      λ e. subst (Contains (map field_of types)) (sym e.2) (in_map field_of types e.0 e.1),
      λ h. let p = from_map field_of types t h in (p.0, p.1, sym p.2),
    )) a
