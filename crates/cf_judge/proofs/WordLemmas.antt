-- Each rule has the first word for what breaks it, or nothing breaks it.
use Rattle.std.proofs.Common.{◌≡◌, ◌≢◌, ℕ, ◌≤◌, List, [], ◌∷◌, Option, Some, None, refl, sym, ap, ◌∙◌, subst, inl}
use Rattle.std.proofs.Common.{inr, ◌⊎◌}
use Rattle.std.proofs.Common.{arith, codes}
use Rattle.std.specs.Prelude.{slice_get}
use Rattle.jv_base.specs.Laws.{FormsDecided}
use Rattle.cf_pool.specs.declared.entry.PoolEntry.{PoolEntry}
use Rattle.cf_pool.specs.declared.entry.PoolEntry.TheVariants as entries
use Rattle.cf_pool.specs.declared.fault.What.{What}
use Rattle.cf_pool.specs.declared.fault.What.TheVariants as words
use Rattle.cf_structure.specs.Raw.{RawMember}
use Rattle.cf_judge.specs.declared.form.Form.{Form}
use Rattle.cf_judge.specs.declared.form.Form.TheVariants as forms
use Rattle.cf_judge.specs.declared.index.Wanted.{Wanted}
use Rattle.cf_judge.specs.declared.index.Wanted.TheVariants as wanted
use Rattle.cf_judge.specs.Forms.{Spell, HasText, HasForm, HaveOneText}
use Rattle.cf_judge.specs.Indices.{word_of, HasNoText, LacksForm, IsClassAt, HasPlainClass}
use Rattle.cf_judge.specs.Indices.{IsNameAndTypeAt, IsOfOtherKind, IsWrongIndex, Fits, FitsField}
use Rattle.cf_judge.specs.Words.{rank}
use Rattle.cf_judge.specs.Demands.{Rule, finds, fits, is_new, has_codes}
use Rattle.cf_judge.specs.Judged.{IsSecond, HasNoBody, BreaksCodeRule, Breaks}
use Rattle.cf_judge.specs.Calls.Words.{TellsWord}
use Rattle.cf_judge.proofs.DecidedLemmas.{spell, text_of, class_of, pair_of}
use Rattle.cf_judge.proofs.IndexLemmas.{kind_word, no_pair}
use Rattle.jv_list.proofs.DecidedLemmas.{Decided, both, either, neither, other, numbers, lists}
use Rattle.jv_list.proofs.MemberLemmas.{none_member, member_cases, first_member}
use Rattle.std.proofs.lemmas.List.Elements.{Contains-append_right}

-- some answer tells the first word
abbrev pub HasWord : (What → Type 0) → Type 0
HasWord Wrong = (r : Option What) × TellsWord Wrong r

same_rank : (a b : What) → a ≡ b → rank b ≤ rank a
same_rank a b e = omega (arith, ap rank e)

one_word : (word : What) (P : Type 0) → Decided P → HasWord (λ what. (what ≡ word) × P)
one_word word P (inl p) = (Some word, ((refl, p), λ what h. same_rank what word h.0))
one_word word P (inr not_p) = (None, λ what h. not_p h.1)

two_words : (a b : What) (P Q : Type 0) → rank a ≤ rank b → Decided P → Decided Q
    → HasWord (λ what. ((what ≡ a) × P) ⊎ ((what ≡ b) × Q))
two_words a b P Q le (inl p) q = (
  Some a,
  (
    inl (refl, p),
    λ what h. elim h [
      | inl first ↦ same_rank what a first.0
      | inr second ↦ omega (arith, same_rank what b second.0)
    ],
  ),
)
two_words a b P Q le (inr not_p) (inl q) = (
  Some b,
  (
    inr (refl, q),
    λ what h. elim h [
      | inl first ↦ absurd (not_p first.1)
      | inr second ↦ same_rank what b second.0
    ],
  ),
)
two_words a b P Q le (inr not_p) (inr not_q) = (
  None,
  λ what h. elim h [ inl first ↦ not_p first.1 | inr second ↦ not_q second.1 ],
)

-- the same for what is the same
other_word : (V W : What → Type 0) → ((what : What) → V what → W what) → ((what : What) → W what → V what) → HasWord V
    → HasWord W
other_word V W to back (None, tells) = (None, λ what h. tells what (back what h))
other_word V W to back (Some first, tells) = (Some first, (to first tells.0, λ what h. tells.1 what (back what h)))

module _ (law : FormsDecided) (pool : List PoolEntry) where
  same_units : (a b : List ℕ) → Some (entries.Utf8 a) ≡ Some (entries.Utf8 b) → a ≡ b
  same_units a b e = cc

  one_text : (i : ℕ) (a b : List ℕ) → HasText pool i a → HasText pool i b → a ≡ b
  one_text i a b x y = same_units a b (sym x ∙ y)

  text_at : (i : ℕ) → Decided ((units : List ℕ) × HasText pool i units)
  text_at i = text_of (slice_get pool i)

  no_text : (i : ℕ) → Decided (HasNoText pool i)
  no_text i =
      other (((units : List ℕ) × HasText pool i units) → ⊥) (HasNoText pool i) (λ h units at. h (units, at))
      (λ h at. h at.0 at.1) (neither _ (text_at i))

  has_form : (form : Form) (i : ℕ) → Decided (HasForm pool form i)
  has_form form i = by_text (text_at i)
    where
      by_text : Decided ((units : List ℕ) × HasText pool i units) → Decided (HasForm pool form i)
      by_text (inl t) =
          other (Spell form t.0) (HasForm pool form i) (λ s. (t.0, t.1, s))
          (λ h. subst (Spell form) (one_text i h.0 t.0 h.1 t.1) h.2) (spell law form t.0)
      by_text (inr none) = inr (λ h. none (h.0, h.1))

  lacks_form : (form : Form) (i : ℕ) → Decided (LacksForm pool form i)
  lacks_form form i = by_text (text_at i)
    where
      by_text : Decided ((units : List ℕ) × HasText pool i units) → Decided (LacksForm pool form i)
      by_text (inl t) =
          other (Spell form t.0 → ⊥) (LacksForm pool form i) (λ s. (t.0, t.1, s))
          (λ h s. h.2 (subst (Spell form) (sym (one_text i h.0 t.0 h.1 t.1)) s)) (neither _ (spell law form t.0))
      by_text (inr none) = inr (λ h. none (h.0, h.1))

  -- a text of the form stands there, or some word says what is wrong
  pub form_or_word : (form : Form) (i : ℕ)
      → HasForm pool form i ⊎ ((what : What) × IsWrongIndex pool (wanted.Formed form) i what)
  form_or_word form i = elim (text_at i) [
    | inl t ↦ elim (spell law form t.0) [
      | inl s ↦ inl (t.0, t.1, s)
      | inr not_spelled ↦ inr (word_of form, inr (refl, (t.0, t.1, not_spelled)))
    ]
    | inr none ↦ inr (words.BadIndex, inl (refl, λ units at. none (units, at)))
  ]

  pub plain_class : (i : ℕ) → Decided (HasPlainClass pool i)
  plain_class i = by_class (class_of (slice_get pool i))
    where
      same_class : (a b : ℕ) → Some (entries.Class a) ≡ Some (entries.Class b) → a ≡ b
      same_class a b e = cc

      by_class : Decided (IsClassAt pool i) → Decided (HasPlainClass pool i)
      by_class (inl found) =
          other (HasForm pool forms.Array found.0 → ⊥) (HasPlainClass pool i) (λ h. (found.0, found.1, h))
          (λ h k. h.2 (subst (HasForm pool forms.Array) (sym (same_class h.0 found.0 (sym h.1 ∙ found.1))) k))
          (neither _ (has_form forms.Array found.0))
      by_class (inr none) = inr (λ h. none (h.0, h.1))

  form_rank : (form : Form) → rank words.BadIndex ≤ rank (word_of form)
  form_rank forms.Attribute = omega arith
  form_rank forms.Unqualified = omega arith
  form_rank forms.Method = omega arith
  form_rank forms.Class = omega arith
  form_rank forms.Array = omega arith
  form_rank forms.ClassOrArray = omega arith
  form_rank forms.FieldDescriptor = omega arith
  form_rank forms.MethodDescriptor = omega arith
  form_rank forms.Descriptor = omega arith

  other_kind : (f g : Form) (name desc : ℕ) → HasWord (IsOfOtherKind pool f g name desc)
  other_kind f g name desc = by_order (has_form forms.Unqualified name) (has_form forms.Descriptor desc)
    where
      by_order : Decided (HasForm pool forms.Unqualified name) → Decided (HasForm pool forms.Descriptor desc)
          → HasWord (IsOfOtherKind pool f g name desc)
      by_order (inl n) (inl d) =
          other_word _ (IsOfOtherKind pool f g name desc)
          (λ what h. record { name_in_order = n; desc_in_order = d; other = h }) (λ what h. h.other)
          (two_words words.BadName words.BadDesc (HasForm pool f name → ⊥) (HasForm pool g desc → ⊥) (omega arith)
          (neither _ (has_form f name)) (neither _ (has_form g desc)))
      by_order (inl n) (inr not_d) = (None, λ what h. not_d h.desc_in_order)
      by_order (inr not_n) d = (None, λ what h. not_n h.name_in_order)

  index_word : (w : Wanted) (i : ℕ) → HasWord (IsWrongIndex pool w i)
  index_word wanted.Text i = one_word words.BadIndex (HasNoText pool i) (no_text i)
  index_word (wanted.Formed form) i =
      two_words words.BadIndex (word_of form) (HasNoText pool i) (LacksForm pool form i) (form_rank form) (no_text i)
      (lacks_form form i)
  index_word wanted.Class i =
      one_word words.BadIndex (IsClassAt pool i → ⊥) (neither (IsClassAt pool i) (class_of (slice_get pool i)))
  index_word wanted.PlainClass i =
      one_word words.BadIndex (HasPlainClass pool i → ⊥) (neither (HasPlainClass pool i) (plain_class i))
  index_word wanted.CatchType i =
      other_word _ (IsWrongIndex pool wanted.CatchType i) (λ what h. (h.0, h.1.0, h.1.1)) (λ what h. (h.0, (h.1, h.2)))
      (one_word words.BadIndex ((i ≢ 0) × (HasPlainClass pool i → ⊥))
      (both (i ≢ 0) _ (neither (i ≡ 0) (numbers i 0)) (neither (HasPlainClass pool i) (plain_class i))))
  index_word (wanted.NameAndType f g) i = by_pair (pair_of (slice_get pool i))
    where
      by_pair : Decided (IsNameAndTypeAt pool i) → HasWord (IsWrongIndex pool (wanted.NameAndType f g) i)
      by_pair (inl found) =
          let kind = other_kind f g found.0 found.1 in
          (kind.0, kind_word pool f g i found.0 found.1 found.2 kind.0 kind.1)
      by_pair (inr none) = (Some words.BadIndex, no_pair pool f g i none)

  -- ---- the other rules

  fits_type : (e : PoolEntry) (desc : List ℕ) → Decided (Fits e desc)
  fits_type (entries.Integer n) desc =
      either (desc ≡ codes "I") _ (lists desc (codes "I")) (either (desc ≡ codes "S") _ (lists desc (codes "S"))
      (either (desc ≡ codes "C") _ (lists desc (codes "C"))
      (either (desc ≡ codes "B") (desc ≡ codes "Z") (lists desc (codes "B")) (lists desc (codes "Z")))))
  fits_type (entries.Float bits) desc = lists desc (codes "F")
  fits_type (entries.Long n) desc = lists desc (codes "J")
  fits_type (entries.Double bits) desc = lists desc (codes "D")
  fits_type (entries.Str text) desc = lists desc (codes "Ljava/lang/String;")
  fits_type e desc = inr (λ h. h)

  fits_field : (desc index : ℕ) → Decided (FitsField pool desc index)
  fits_field desc index = by_parts (slice_get pool index) refl (text_at desc)
    where
      same_entry : (a b : PoolEntry) → Some a ≡ Some b → a ≡ b
      same_entry a b e = cc

      by_parts : (e : Option PoolEntry) → slice_get pool index ≡ e
          → Decided ((units : List ℕ) × HasText pool desc units)
          → Decided (FitsField pool desc index)
      by_parts None is text = inr (λ h. absurd (cc (sym is ∙ h.stands)))
      by_parts (Some e) is (inr none) = inr (λ h. none (h.units, h.text))
      by_parts (Some e) is (inl t) =
          other (Fits e t.0) (FitsField pool desc index)
          (λ h. record { entry = e; units = t.0; stands = is; text = t.1; fits = h })
          (λ h. subst (Fits e) (one_text desc h.units t.0 h.text t.1)
          (subst (λ (x : PoolEntry). Fits x h.units) (same_entry h.entry e (sym h.stands ∙ is)) h.fits))
          (fits_type e t.0)

  one_text_at : (i j : ℕ) → Decided (HaveOneText pool i j)
  one_text_at i j = by_texts (text_at i) (text_at j)
    where
      by_texts : Decided ((units : List ℕ) × HasText pool i units) → Decided ((units : List ℕ) × HasText pool j units)
          → Decided (HaveOneText pool i j)
      by_texts (inl a) (inl b) =
          other (a.0 ≡ b.0) (HaveOneText pool i j) (λ e. (a.0, a.1, subst (HasText pool j) (sym e) b.1))
          (λ h. one_text i a.0 h.0 a.1 h.1 ∙ one_text j h.0 b.0 h.2 b.1) (lists a.0 b.0)
      by_texts (inl a) (inr none) = inr (λ h. none (h.0, h.2))
      by_texts (inr none) b = inr (λ h. none (h.0, h.1))

  abbrev Same : RawMember → RawMember → Type 0
  Same m y = HaveOneText pool y.name m.name × HaveOneText pool y.desc m.desc

  is_second : (m : RawMember) (earlier : List RawMember) → Decided (IsSecond pool earlier m)
  is_second m [] = inr (λ h. none_member h.other h.is_earlier)
  is_second m (x ∷ xs) =
      other (Same m x ⊎ IsSecond pool xs m) (IsSecond pool (x ∷ xs) m)
      (λ h. elim h [
        | inl here ↦ record { other = x; is_earlier = first_member x xs; name = here.0; desc = here.1 }
        | inr later ↦ record {
          other = later.other;
          is_earlier = Contains-append_right (x ∷ []) xs later.other later.is_earlier;
          name = later.name;
          desc = later.desc;
        }
      ])
      (λ h. elim (member_cases x xs h.other h.is_earlier) [
        | inl same ↦ inl (subst (Same m) (sym same) (h.name, h.desc))
        | inr later ↦ inr (record { other = h.other; is_earlier = later; name = h.name; desc = h.desc })
      ])
      (either (Same m x) (IsSecond pool xs m)
      (both _ _ (one_text_at x.name m.name) (one_text_at x.desc m.desc)) (is_second m xs))

  code_rule : (flags count : ℕ) → Decided (BreaksCodeRule flags count)
  code_rule flags count =
      let no_body : Decided (HasNoBody flags) = either _ _ (numbers _ 1) (numbers _ 1) in
      either _ _ (both (HasNoBody flags) (count ≢ 0) no_body (neither (count ≡ 0) (numbers count 0)))
      (both (HasNoBody flags → ⊥) (count ≢ 1) (neither (HasNoBody flags) no_body)
      (neither (count ≡ 1) (numbers count 1)))

  -- the first word for what breaks a rule, or none
  pub rule_word : (rule : Rule) → HasWord (Breaks pool rule)
  rule_word (finds w i) = index_word w i
  rule_word (fits desc index) = one_word words.BadIndex _ (neither (FitsField pool desc index) (fits_field desc index))
  rule_word (is_new earlier m) = one_word words.Duplicate (IsSecond pool earlier m) (is_second m earlier)
  rule_word (has_codes flags count) = one_word words.CodeRule (BreaksCodeRule flags count) (code_rule flags count)
