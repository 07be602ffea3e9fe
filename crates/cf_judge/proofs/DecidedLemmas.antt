-- Whether a text has a form, and what stands at an index, is decided.
use Rattle.std.proofs.Common.{◌≡◌, ◌≢◌, ℕ, zero, suc, ◌<◌, List, [], ◌∷◌, length, get_or, Bool, true}
use Rattle.std.proofs.Common.{false, Option}
use Rattle.std.proofs.Common.{Some, refl, sym, ap, ◌∙◌, subst, inl, inr, arith}
use Rattle.std.specs.List.{All}
use Rattle.std.specs.Str.{encode_utf8_all}
use Rattle.std.specs.Char.Utf16.{utf16_lossy_chars, has_unpaired_surrogate}
use Rattle.std.proofs.lemmas.Bool.{false≢true}
use Rattle.std.proofs.lemmas.List.Elements.{All-nil, All-cons, All-head, All-tail}
use Rattle.jv_base.specs.Laws.{FormsDecided}
use Rattle.jv_base.specs.Names.{IsNameByte}
use Rattle.jv_base.specs.Descriptor.{is_base_letter, FieldType, ElementType, base, object, IsFieldType}
use Rattle.jv_base.specs.Descriptor.{IsFieldDescriptor, field_text}
use Rattle.cf_pool.specs.declared.entry.PoolEntry.{PoolEntry}
use Rattle.cf_pool.specs.declared.entry.PoolEntry.TheVariants.{Utf8, Class, NameAndType}
use Rattle.cf_judge.specs.declared.form.Form.{Form}
use Rattle.cf_judge.specs.declared.form.Form.TheVariants as forms
use Rattle.cf_judge.specs.Forms.{IsNameOf, IsArrayDescriptor, IsOfForm, Spell}
use Rattle.cf_judge.proofs.FormLemmas.{one_name, paired_name, no_name}
use Rattle.jv_list.proofs.DecidedLemmas.{Decided, both, either, neither, other, numbers, below}

all_bytes : (P : ℕ → Type 0) → ((b : ℕ) → Decided (P b)) → (bs : List ℕ) → Decided (All P bs)
all_bytes P one [] = inl (All-nil P)
all_bytes P one (b ∷ bs) =
    other (P b × All P bs) (All P (b ∷ bs)) (λ h. All-cons P b bs h.0 h.1) (λ h. (All-head P b bs h, All-tail P b bs h))
    (both (P b) (All P bs) (one b) (all_bytes P one bs))

-- ---- forms

is_not : (m n : ℕ) → Decided (m ≢ n)
is_not m n = neither (m ≡ n) (numbers m n)

name_byte : (b : ℕ) → Decided (IsNameByte b)
name_byte b =
    other ((b ≢ 46) × ((b ≢ 59) × ((b ≢ 91) × ((b ≢ 47) × (b ≢ 0))))) (IsNameByte b)
    (λ h. (h.0, h.1.0, h.1.1.0, h.1.1.1.0, h.1.1.1.1)) (λ h. (h.0, (h.1, (h.2, (h.3, h.4)))))
    (both (b ≢ 46) _ (is_not b 46) (both (b ≢ 59) _ (is_not b 59) (both (b ≢ 91) _ (is_not b 91)
    (both (b ≢ 47) (b ≢ 0) (is_not b 47) (is_not b 0)))))

-- the text of a type begins with `[` just where it has a dimension
begins : (t : FieldType) → IsFieldType t → 0 < t.dimensions → get_or (field_text t) 0 0 ≡ 91
begins t is some = by_count t.dimensions t.element some
  where
    by_count : (n : ℕ) (e : ElementType) → 0 < n → get_or (field_text (record { dimensions = n; element = e })) 0 0 ≡ 91
    by_count zero e lt = absurd (omega arith)
    by_count (suc n) e lt = refl

begins_not : (e : ElementType) → IsFieldType (record { dimensions = 0; element = e })
    → get_or (field_text (record { dimensions = 0; element = e })) 0 0 ≡ 91 → ⊥
begins_not (base letter) is e = false≢true (subst (λ (b : ℕ). is_base_letter b ≡ true) e is.1)
begins_not (object name) is e = absurd (omega arith)

module _ (law : FormsDecided) where
  array : (text : List ℕ) → Decided (IsArrayDescriptor text)
  array text = by_field (law.field_descriptor text)
    where
      by_count : (n : ℕ) (e : ElementType) → IsFieldType (record { dimensions = n; element = e })
          → text ≡ field_text (record { dimensions = n; element = e }) → Decided (IsArrayDescriptor text)
      by_count (suc n) e is same = inl (record { dimensions = suc n; element = e }, is, omega arith, same)
      by_count zero e is same =
          inr (λ h. begins_not e is (ap (λ (bs : List ℕ). get_or bs 0 0) (sym same ∙ h.3) ∙ begins h.0 h.1 h.2))

      by_field : Decided (IsFieldDescriptor text) → Decided (IsArrayDescriptor text)
      by_field (inl d) = by_count d.0.dimensions d.0.element d.1 d.2
      by_field (inr not_field) = inr (λ h. not_field (h.0, h.1, h.3))

  of_form : (form : Form) (text : List ℕ) → Decided (IsOfForm form text)
  of_form forms.Attribute text = all_bytes (λ b. b ≢ 0) (λ b. is_not b 0) text
  of_form forms.Unqualified text =
      both (0 < length text) (All IsNameByte text) (below 0 (length text)) (all_bytes IsNameByte name_byte text)
  of_form forms.Method text = law.any_method_name text
  of_form forms.Class text = law.class_name text
  of_form forms.Array text = array text
  of_form forms.ClassOrArray text =
      either (IsOfForm forms.Class text) (IsArrayDescriptor text) (law.class_name text) (array text)
  of_form forms.FieldDescriptor text = law.field_descriptor text
  of_form forms.MethodDescriptor text = law.method_descriptor text
  of_form forms.Descriptor text =
      either (IsFieldDescriptor text) (IsOfForm forms.MethodDescriptor text) (law.field_descriptor text)
      (law.method_descriptor text)

  pub spell : (form : Form) (units : List ℕ) → Decided (Spell form units)
  spell form units = by_lone (has_unpaired_surrogate units) refl
    where
      by_lone : (b : Bool) → has_unpaired_surrogate units ≡ b → Decided (Spell form units)
      by_lone true e = inr (λ h. no_name units h.0 e h.1)
      by_lone false e =
          let name : List ℕ = encode_utf8_all (utf16_lossy_chars units) in
          let is : IsNameOf units name = paired_name units name e refl in
          other (IsOfForm form name) (Spell form units) (λ h. (name, is, h))
          (λ h. subst (IsOfForm form) (one_name units h.0 name h.1 is) h.2) (of_form form name)

-- ---- what stands at an index

abbrev pub TextOf : Option PoolEntry → Type 0
TextOf e = (units : List ℕ) × (e ≡ Some (Utf8 units))

pub text_of : (e : Option PoolEntry) → Decided (TextOf e)
text_of (Some (Utf8 units)) = inl (units, refl)
text_of e = inr (λ h. absurd (cc h.1))

abbrev pub ClassOf : Option PoolEntry → Type 0
ClassOf e = (name : ℕ) × (e ≡ Some (Class name))

pub class_of : (e : Option PoolEntry) → Decided (ClassOf e)
class_of (Some (Class name)) = inl (name, refl)
class_of e = inr (λ h. absurd (cc h.1))

abbrev pub PairOf : Option PoolEntry → Type 0
PairOf e = (name : ℕ) × (desc : ℕ) × (e ≡ Some (NameAndType name desc))

pub pair_of : (e : Option PoolEntry) → Decided (PairOf e)
pair_of (Some (NameAndType name desc)) = inl (name, desc, refl)
pair_of e = inr (λ h. absurd (cc h.2))
