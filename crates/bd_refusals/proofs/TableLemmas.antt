-- Class files that are put behind others, and found by their names.
use Rattle.std.proofs.Common.{◌≡◌, ◌⊎◌, ◌↔◌, ℕ, ◌<◌, ◌≤◌, ◌+◌, Bool, true, false, cond, List, [], ◌∷◌, ◌++◌}
use Rattle.std.proofs.Common.{Option, Some, None}
use Rattle.std.proofs.Common.{Contains, length, take, slice_index_or, inl, inr, refl, sym, ap, subst, ◌∙◌, IsTrue, not}
use Rattle.std.proofs.lemmas.Bool.{false≢true}
use Rattle.std.specs.Option.{option_or}
use Rattle.std.specs.Str.{bytes_eq}
use Rattle.std.proofs.lemmas.List.{take_all, take_more}
use Rattle.std.proofs.lemmas.List.Elements.{Contains-append_left, Contains-append_right, Contains-append_cases}
use Rattle.std.proofs.lemmas.List.Folds.{find-append}
use Rattle.std.proofs.lemmas.Option.{none-some, same_Some}
use Rattle.std.proofs.lemmas.Slice.Eq.{bytes_eq-Decides}
use Rattle.jv_list.proofs.MemberLemmas.{none_member, one_member, first_member}
use Rattle.cf_class.specs.declared.class_file.ClassFile.{ClassFile}
use Rattle.hi_tree.specs.Classes.{class_in}
use Rattle.bd_refusals.specs.Suited.{IsCircular, HasUnsuited, IsSuited, IsSuitedIn, AreSuitedOf}
use Rattle.bd_refusals.specs.Calls.Tables.{HasSuited, PutsSuited}

pushed : (classes : List ClassFile) (d : ClassFile) (q : List ℕ)
    → class_in (classes ++ d ∷ []) q ≡ option_or (class_in classes q) (class_in (d ∷ []) q)
unfolding class_in
pushed classes d q = find-append (λ (c : ClassFile). bytes_eq q c.this_class.name) classes (d ∷ [])

-- the class file that is found alone has the name, and is the one
one_named : (d c : ClassFile) (q : List ℕ) → class_in (d ∷ []) q ≡ Some c → (q ≡ d.this_class.name) × (d ≡ c)
unfolding class_in
one_named d c q = by (bytes_eq q d.this_class.name) refl
  where
    by : (t : Bool) → bytes_eq q d.this_class.name ≡ t → cond (bytes_eq q d.this_class.name) (Some d) None ≡ Some c
        → (q ≡ d.this_class.name) × (d ≡ c)
    by true e is = (
      (bytes_eq-Decides q d.this_class.name).0 e,
      same_Some d c (sym (ap (λ (t : Bool). cond t (Some d) None) e) ∙ is),
    )
    by false e is = absurd (none-some c (sym (ap (λ (t : Bool). cond t (Some d) None) e) ∙ is))

named_one : (d : ClassFile) (q : List ℕ) → q ≡ d.this_class.name → class_in (d ∷ []) q ≡ Some d
unfolding class_in
named_one d q same = ap (λ (t : Bool). cond t (Some d) None) ((bytes_eq-Decides q d.this_class.name).1 same)

or_cases : (a b : Option ClassFile) (c : ClassFile) → option_or a b ≡ Some c → (a ≡ Some c) ⊎ (b ≡ Some c)
or_cases None b c e = inr e
or_cases (Some x) b c e = inl e

or_first : (a b : Option ClassFile) (c : ClassFile) → a ≡ Some c → option_or a b ≡ Some c
or_first None b c e = absurd (none-some c e)
or_first (Some x) b c e = e

or_second : (a b : Option ClassFile) (c : ClassFile) → a ≡ None → b ≡ Some c → option_or a b ≡ Some c
or_second None b c e f = f
or_second (Some x) b c e f = absurd (none-some x (sym e))

-- a class file that is found has the name that is asked
pub has_name : (classes : List ClassFile) (q : List ℕ) (c : ClassFile) → class_in classes q ≡ Some c
    → c.this_class.name ≡ q
unfolding class_in
has_name [] q c = λ e. absurd (none-some c e)
has_name (d ∷ classes) q c = by (has_name classes q c) (bytes_eq q d.this_class.name) refl
  where
    by : (class_in classes q ≡ Some c → c.this_class.name ≡ q) → (t : Bool) → bytes_eq q d.this_class.name ≡ t
        → class_in (d ∷ classes) q ≡ Some c → c.this_class.name ≡ q
    by later true e is =
        let one : d ≡ c = same_Some d c (sym (ap (λ (t : Bool). cond t (Some d) (class_in classes q)) e) ∙ is) in
        sym ((bytes_eq-Decides q d.this_class.name).0 e ∙ ap (λ (f : ClassFile). f.this_class.name) one)
    by later false e is = later (sym (ap (λ (t : Bool). cond t (Some d) (class_in classes q)) e) ∙ is)

none_in : (q : List ℕ) → class_in [] q ≡ None
unfolding class_in
none_in q = refl

-- ---- one class file more

module _ (classes : List ClassFile) (name : List ℕ) (old : List ClassFile) where
  -- the one of a name, by another of that name
  at_name : (q : List ℕ) (c : ClassFile) → q ≡ name → class_in classes q ≡ Some c → class_in classes name ≡ Some c
  at_name q c same e = subst (λ n. class_in classes n ≡ Some c) same e

  pub puts_there : (d : ClassFile) → HasSuited classes old → class_in old name ≡ Some d
      → PutsSuited classes name old old
  puts_there d has there q c = (
    inl,
    λ h. elim h [
      | inl e ↦ e
      | inr (same, is) ↦
          let both : d ≡ c = same_Some d c (sym (has name d there).0 ∙ at_name q c same is.0) in
          subst (λ n. class_in old n ≡ Some c) (sym same) (there ∙ ap (λ (f : ClassFile). Some f) both)
    ],
  )

  pub puts_nothing : class_in classes name ≡ None → PutsSuited classes name old old
  puts_nothing none q c = (
    inl,
    λ h. elim h [
      | inl e ↦ e
      | inr (same, is) ↦ absurd (none-some c (sym none ∙ at_name q c same is.0))
    ],
  )

  module _ (d : ClassFile) (here : class_in classes name ≡ Some d) where
    pub puts_unsuited : (IsSuited classes d → ⊥) → PutsSuited classes name old old
    puts_unsuited unsuited q c = (
      inl,
      λ h. elim h [
        | inl e ↦ e
        | inr (same, is) ↦
            absurd (unsuited (subst (IsSuited classes) (same_Some c d (sym (at_name q c same is.0) ∙ here)) is.1))
      ],
    )

    pub puts_one : (new : List ClassFile) → IsSuited classes d → class_in old name ≡ None → new ≡ old ++ d ∷ []
        → PutsSuited classes name old new
    puts_one new suited absent grown q c = (
      λ e. elim (or_cases (class_in old q) (class_in (d ∷ []) q) c
          (sym (pushed old d q) ∙ ap (λ t. class_in t q) (sym grown) ∙ e)) [
            | inl there ↦ inl there
            | inr one ↦
                let (is, same) = one_named d c q one in
                let named : q ≡ name = is ∙ has_name classes name d here in
                let there : class_in classes q ≡ Some c =
                subst (λ n. class_in classes n ≡ Some c) (sym named) (here ∙ ap (λ (f : ClassFile). Some f) same) in
                inr (named, (there, subst (IsSuited classes) same suited))
          ],
      λ h. ap (λ t. class_in t q) grown ∙ pushed old d q ∙ elim h [
        | inl e ↦ or_first (class_in old q) (class_in (d ∷ []) q) c e
        | inr (same, is) ↦
            let one : d ≡ c = same_Some d c (sym here ∙ at_name q c same is.0) in
            or_second (class_in old q) (class_in (d ∷ []) q) c
            (subst (λ n. class_in old n ≡ None) (sym same) absent)
            (named_one d q (same ∙ sym (has_name classes name d here)) ∙ ap (λ (f : ClassFile). Some f) one)
      ],
    )

-- ---- one name after the other

module _ (classes : List ClassFile) where
  pub suited_start : (table : List ClassFile) → table ≡ [] → AreSuitedOf classes [] table
  suited_start table empty q c = (
    λ e. absurd (none-some c (sym (ap (λ t. class_in t q) empty ∙ none_in q) ∙ e)),
    λ h. absurd (none_member q h.0),
  )

  pub suited_alone : (names : List (List ℕ)) (table : List ClassFile) → AreSuitedOf classes names table
      → HasSuited classes table
  suited_alone names table are q c e = ((are q c).0 e).1

  pub suited_step : (names : List (List ℕ)) (i : ℕ) (d : List ℕ) (old new : List ClassFile) → i < length names
      → AreSuitedOf classes (take i names) old → PutsSuited classes (slice_index_or names i d) old new
      → AreSuitedOf classes (take (i + 1) names) new
  suited_step names i d old new within are puts q c =
      let x : List ℕ = slice_index_or names i d in
      let e : take (i + 1) names ≡ take i names ++ x ∷ [] = take_more names i d within in
      let last : Contains (take i names ++ x ∷ []) x =
      Contains-append_right (take i names) (x ∷ []) x (first_member x []) in (
        λ h. elim ((puts q c).0 h) [
          | inl there ↦
              let (before, is) = (are q c).0 there in
              (subst (λ l. Contains l q) (sym e) (Contains-append_left (take i names) (x ∷ []) q before), is)
          | inr (same, is) ↦ (
            subst (λ l. Contains l q) (sym e)
                (subst (Contains (take i names ++ x ∷ [])) (sym same) last),
            is,
          )
        ],
        λ h. elim (Contains-append_cases (take i names) (x ∷ []) q (subst (λ l. Contains l q) e h.0)) [
          | inl before ↦ (puts q c).1 (inl ((are q c).1 (before, h.1)))
          | inr last ↦ (puts q c).1 (inr (sym (one_member x q last), h.1))
        ],
      )

  pub suited_end : (names : List (List ℕ)) (i : ℕ) (table : List ClassFile) → length names ≤ i
      → AreSuitedOf classes (take i names) table → AreSuitedOf classes names table
  suited_end names i table past are = subst (λ l. AreSuitedOf classes l table) (take_all i names past) are

-- ---- whether a class file is suited

module _ (classes : List ClassFile) (c : ClassFile) where
  pub never : HasUnsuited classes c → IsTrue false ↔ IsSuited classes c
  never has = (λ f. absurd (false≢true f), λ suited. absurd (suited.no_unsuited has))

  pub suited_both : (HasUnsuited classes c → ⊥) → (yes : Bool) → IsTrue yes ↔ IsCircular classes c.this_class.name
      → IsTrue (not yes) ↔ IsSuited classes c
  suited_both none true is =
      (λ f. absurd (false≢true f), λ suited. absurd (suited.not_circular (is.0 refl)))
  suited_both none false is =
      (λ t. record { not_circular = λ h. false≢true (is.1 h); no_unsuited = none }, λ suited. refl)

pub absent_by_name : (classes : List ClassFile) (name : List ℕ) (table : List ClassFile) (d : ClassFile)
    → class_in classes name ≡ Some d → class_in table name ≡ None → class_in table d.this_class.name ≡ None
absent_by_name classes name table d here absent =
    subst (λ n. class_in table n ≡ None) (sym (has_name classes name d here)) absent
