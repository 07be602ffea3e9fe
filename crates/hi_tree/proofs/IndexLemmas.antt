-- The index by name.
use Rattle.std.proofs.Common.{◌≡◌, ℕ, ◌<◌, Bool, true, false, cond, List, [], ◌∷◌, ◌++◌, ◌⊎◌, inl, inr, Option}
use Rattle.std.proofs.Common.{Some, None, length, sym, ◌∙◌, ap, subst, refl, arith, length-append, true≢false}
use Rattle.std.specs.Prelude.{IfSome, OnOk, OnErr, Result, Ok, Err}
use Rattle.std.specs.Option.{option_or}
use Rattle.std.specs.Str.{bytes_eq}
use Rattle.std.specs.Map.{update}
use Rattle.std.proofs.lemmas.List.Folds.{find-append}
use Rattle.std.proofs.lemmas.Slice.Eq.{bytes_eq-Decides}
use Rattle.jv_list.proofs.PlaceLemmas.{slice_get-push_last, slice_get-push_other}
use Rattle.std.proofs.lemmas.Option.{slice_get-get_or}
use Rattle.cf_class.specs.declared.class_file.ClassFile.{ClassFile}
use Rattle.hi_tree.specs.Classes.{class_in}
use Rattle.hi_tree.specs.Calls.Index.{IsIndex, found_at}

pub no_index : (place_of : List ℕ → Option ℕ) → ((q : List ℕ) → place_of q ≡ None) → IsIndex place_of []
unfolding class_in
no_index place_of none = record {
  found = λ q. rw (none q) refl;
  within = λ q. rw (none q) tt;
}

module _ (old new : List ℕ → Option ℕ) (classes : List ClassFile) (class : ClassFile) (is : IsIndex old classes)
    (absent : class_in classes class.this_class.name ≡ None)
    (updated : (q : List ℕ) → new q ≡ update bytes_eq old class.this_class.name (Some (length classes)) q) where
  pushed : (q : List ℕ) → class_in (classes ++ class ∷ []) q ≡ option_or (class_in classes q) (class_in
      (class ∷ []) q)
  unfolding class_in
  pushed q = find-append (λ (c : ClassFile). bytes_eq q c.this_class.name) classes (class ∷ [])

  named : (q : List ℕ) → q ≡ class.this_class.name → class_in (class ∷ []) q ≡ Some class
  unfolding class_in
  named q same = ap (λ (t : Bool). cond t (Some class) None) ((bytes_eq-Decides q class.this_class.name).1 same)

  not_named : (q : List ℕ) → (q ≡ class.this_class.name → ⊥) → class_in (class ∷ []) q ≡ None
  unfolding class_in
  not_named q differs = by (bytes_eq q class.this_class.name) refl
    where
      by : (t : Bool) → bytes_eq q class.this_class.name ≡ t
          → cond (bytes_eq q class.this_class.name) (Some class) None ≡ None
      by true e = absurd (differs ((bytes_eq-Decides q class.this_class.name).0 e))
      by false e = ap (λ (t : Bool). cond t (Some class) None) e

  at_last : (q : List ℕ) → q ≡ class.this_class.name → found_at (classes ++ class ∷ []) (Some
      (length classes)) ≡ class_in (classes ++ class ∷ []) q
  at_last q same =
      let none : class_in classes q ≡ None = ap (λ (n : List ℕ). class_in classes n) same ∙ absent in
      slice_get-push_last classes class (length classes) refl
      ∙ sym (pushed q ∙ ap (λ (o : Option ClassFile). option_or o (class_in (class ∷ []) q)) none ∙ named q same)

  or_none : (o : Option ClassFile) → option_or o None ≡ o
  or_none None = refl
  or_none (Some c) = refl

  earlier : (q : List ℕ) (o : Option ℕ) → IfSome o (λ place. place < length classes)
      → found_at (classes ++ class ∷ []) o ≡ found_at classes o
  earlier q None within = refl
  earlier q (Some place) within =
      let e = slice_get-get_or classes place class within in
      slice_get-push_other classes class _ place e ∙ sym e

  at_other : (q : List ℕ) → (q ≡ class.this_class.name → ⊥)
      → found_at (classes ++ class ∷ []) (old q) ≡ class_in (classes ++ class ∷ []) q
  at_other q differs =
      earlier q (old q) (is.within q) ∙ is.found q
      ∙ sym (pushed q ∙ ap (λ (o : Option ClassFile). option_or (class_in classes q) o) (not_named q differs)
      ∙ or_none (class_in classes q))

  wider : (o : Option ℕ) → IfSome o (λ place. place < length classes)
      → IfSome o (λ place. place < length (classes ++ class ∷ []))
  wider None h = tt
  wider (Some place) h = let e = length-append classes (class ∷ []) in omega arith

  new_is : (q : List ℕ) → ((q ≡ class.this_class.name) × (new q ≡ Some (length classes)))
      ⊎ ((q ≡ class.this_class.name → ⊥) × (new q ≡ old q))
  new_is q = by (bytes_eq class.this_class.name q) refl
    where
      by : (t : Bool) → bytes_eq class.this_class.name q ≡ t → ((q ≡ class.this_class.name)
          × (new q ≡ Some (length classes))) ⊎ ((q ≡ class.this_class.name → ⊥) × (new q ≡ old q))
      by true e = inl (
        sym ((bytes_eq-Decides class.this_class.name q).0 e),
        updated q
            ∙ ap (λ (t : Bool). cond t (Some (length classes)) (old q)) e,
      )
      by false e = inr (
        (λ same. true≢false (sym ((bytes_eq-Decides class.this_class.name q).1 (sym same)) ∙ e)),
        updated q ∙ ap (λ (t : Bool). cond t (Some (length classes)) (old q)) e,
      )

  pub pushed_index : IsIndex new (classes ++ class ∷ [])
  pushed_index = record {
    found = λ q. elim (new_is q) [
      | inl same ↦ ap (λ (o : Option ℕ). found_at (classes ++ class ∷ []) o) same.1 ∙ at_last q same.0
      | inr other ↦ ap (λ (o : Option ℕ). found_at (classes ++ class ∷ []) o) other.1 ∙ at_other q other.0
    ];
    within = λ q. elim (new_is q) [
      | inl same ↦ rw same.1 (let e = length-append classes (class ∷ []) in omega arith)
      | inr other ↦ rw other.1 (wider (old q) (is.within q))
    ];
  }

-- after a call that puts a class in or leaves all as it was, the index is one
pub put_kept : {A E : Type 0} (r : Result A E) (old new : List ℕ
    → Option ℕ) (classes now : List ClassFile) (class : ClassFile) (P : Type 0)
    → IsIndex old classes → class_in classes class.this_class.name ≡ None → OnOk r (now ≡ classes ++ class ∷ [])
    → OnOk r ((q : List ℕ) → new q ≡ update bytes_eq old class.this_class.name (Some (length classes)) q)
    → OnErr r ((now ≡ classes) × P) → (P → (q : List ℕ) → new q ≡ old q) → IsIndex new now
put_kept (Ok x) old new classes now class P is absent ok updated unchanged same =
    subst (λ (cs : List ClassFile). IsIndex new cs) (sym ok) (pushed_index old new classes class is absent updated)
put_kept (Err e) old new classes now class P is absent ok updated unchanged same = record {
  found = λ q.
      rw (same unchanged.1 q) (subst (λ (cs : List ClassFile). found_at cs (old q) ≡ class_in cs q)
      (sym unchanged.0) (is.found q));
  within = λ q.
      rw (same unchanged.1 q) (subst (λ (cs : List ClassFile). IfSome (old q) (λ place. place < length cs))
      (sym unchanged.0) (is.within q));
}
