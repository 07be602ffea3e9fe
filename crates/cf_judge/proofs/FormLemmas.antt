-- The forms of a name, and of what units spell.
use Rattle.std.proofs.Common.{◌≡◌, ℕ, Bool, true, false, not, ◌||◌, List, [], ◌∷◌, map, Option, Some, None, IsTrue}
use Rattle.std.proofs.Common.{◌↔◌, ◌⊎◌}
use Rattle.std.proofs.Common.{refl, sym, ap, ◌∙◌, subst, inl, inr, is_some, unwrap_or}
use Rattle.std.specs.List.{list_any}
use Rattle.std.specs.Char.Utf16.{utf16_chars, utf16_lossy_chars, has_unpaired_surrogate}
use Rattle.std.specs.Str.{encode_utf8_all}
use Rattle.std.proofs.lemmas.Bool.{false≢true}
use Rattle.cf_judge.specs.declared.form.Form.{Form}
use Rattle.cf_judge.specs.declared.form.Form.TheVariants as forms
use Rattle.cf_judge.specs.declared.text.Forms.{Forms}
use Rattle.cf_judge.specs.Forms.{IsNameOf, IsOfForm}
use Rattle.cf_judge.specs.Texts.{has, AreFormsOf, AreSpelled}
use Rattle.jv_list.proofs.ToldLemmas.{told_map}

or_ways : (a b : Bool) (A B : Type 0) → (IsTrue a ↔ A) → (IsTrue b ↔ B) → IsTrue (a || b) ↔ (A ⊎ B)
or_ways true b A B x y = (λ t. inl (x.0 refl), λ h. refl)
or_ways false b A B x y = (λ t. inr (y.0 t), λ h. elim h [ inl p ↦ absurd (false≢true (x.1 p)) | inr q ↦ y.1 q ])

pub are_forms : (name : List ℕ) (f : Forms) → (IsTrue f.attribute ↔ IsOfForm forms.Attribute name)
    → (IsTrue f.unqualified ↔ IsOfForm forms.Unqualified name) → (IsTrue f.method ↔ IsOfForm forms.Method name)
    → (IsTrue f.class ↔ IsOfForm forms.Class name) → (IsTrue f.array ↔ IsOfForm forms.Array name)
    → (IsTrue f.field_descriptor ↔ IsOfForm forms.FieldDescriptor name)
    → (IsTrue f.method_descriptor ↔ IsOfForm forms.MethodDescriptor name) → AreFormsOf name f
are_forms name f attribute unqualified method class array field_desc method_desc forms.Attribute = attribute
are_forms name f attribute unqualified method class array field_desc method_desc forms.Unqualified = unqualified
are_forms name f attribute unqualified method class array field_desc method_desc forms.Method = method
are_forms name f attribute unqualified method class array field_desc method_desc forms.Class = class
are_forms name f attribute unqualified method class array field_desc method_desc forms.Array = array
are_forms name f attribute unqualified method class array field_desc method_desc forms.ClassOrArray =
    or_ways f.class f.array (IsOfForm forms.Class name) (IsOfForm forms.Array name) class array
are_forms name f attribute unqualified method class array field_desc method_desc forms.FieldDescriptor = field_desc
are_forms name f attribute unqualified method class array field_desc method_desc forms.MethodDescriptor = method_desc
are_forms name f attribute unqualified method class array field_desc method_desc forms.Descriptor =
    or_ways f.field_descriptor f.method_descriptor (IsOfForm forms.FieldDescriptor name)
    (IsOfForm forms.MethodDescriptor name) field_desc method_desc

-- ---- the name that units spell

some_same : (x y : ℕ) → Some x ≡ Some y → x ≡ y
some_same x y e = cc

-- units spell one name at most
pub one_name : (units a b : List ℕ) → IsNameOf units a → IsNameOf units b → a ≡ b
one_name units a b x y =
    let same = told_map Some some_same x.characters y.characters (sym x.spelled ∙ y.spelled) in
    x.name_is ∙ ap encode_utf8_all same ∙ sym y.name_is

abbrev is_lone : Option ℕ → Bool
is_lone o = not (is_some o)

abbrev or_replaced : Option ℕ → ℕ
or_replaced o = unwrap_or o 0xFFFD

all_paired : (os : List (Option ℕ)) → list_any is_lone os ≡ false → os ≡ map Some (map or_replaced os)
all_paired [] e = refl
all_paired (Some c ∷ os) e = ap (λ (others : List (Option ℕ)). Some c ∷ others) (all_paired os e)
all_paired (None ∷ os) e = absurd (false≢true (sym e))

not_paired : (cs : List ℕ) → list_any is_lone (map Some cs) ≡ true → ⊥
not_paired [] e = false≢true e
not_paired (c ∷ cs) e = not_paired cs e

-- where each surrogate has its partner there is a name
pub paired_name : (units name : List ℕ) → has_unpaired_surrogate units ≡ false
    → name ≡ encode_utf8_all (utf16_lossy_chars units) → IsNameOf units name
paired_name units name paired e = record {
  characters = utf16_lossy_chars units;
  spelled = all_paired (utf16_chars units) paired;
  name_is = e;
}

-- where one has none there is no name
pub no_name : (units name : List ℕ) → has_unpaired_surrogate units ≡ true → IsNameOf units name → ⊥
no_name units name lone h =
    not_paired h.characters (subst (λ (os : List (Option ℕ)). list_any is_lone os ≡ true) h.spelled lone)

-- ---- the forms of what units spell

pub spelled_forms : (units name : List ℕ) (f : Forms) → IsNameOf units name → AreFormsOf name f → AreSpelled units f
spelled_forms units name f is are = λ form. (
  λ t. (name, is, (are form).0 t),
  λ h. (are form).1 (subst (IsOfForm form) (one_name units h.0 name h.1 is) h.2),
)

abbrev pub no_forms : Forms
no_forms = record {
  attribute = false;
  unqualified = false;
  method = false;
  class = false;
  array = false;
  field_descriptor = false;
  method_descriptor = false;
}

has_none : (form : Form) → IsTrue (has no_forms form) → ⊥
has_none forms.Attribute t = false≢true t
has_none forms.Unqualified t = false≢true t
has_none forms.Method t = false≢true t
has_none forms.Class t = false≢true t
has_none forms.Array t = false≢true t
has_none forms.ClassOrArray t = false≢true t
has_none forms.FieldDescriptor t = false≢true t
has_none forms.MethodDescriptor t = false≢true t
has_none forms.Descriptor t = false≢true t

pub unspelled_forms : (units : List ℕ) → ((name : List ℕ) → IsNameOf units name → ⊥) → AreSpelled units no_forms
unspelled_forms units none = λ form. (λ t. absurd (has_none form t), λ h. absurd (none h.0 h.1))
