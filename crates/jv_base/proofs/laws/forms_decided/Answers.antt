-- Where a text leads tells whether it has a form.
use Rattle.std.proofs.Common.{◌≡◌, ◌∙◌, ◌⊎◌, ℕ, Bool, true, false, List, [], ◌++◌, Option, Some, None, codes}
use Rattle.std.proofs.Common.{refl, sym, subst, inl, inr}
use Rattle.std.proofs.lemmas.Bool.{false≢true}
use Rattle.std.proofs.lemmas.List.{append-nil}
use Rattle.std.specs.Str.{bytes_eq}
use Rattle.std.proofs.lemmas.Slice.Eq.{bytes_eq-Decides}
use Rattle.jv_base.specs.declared.form.Form.{Form}
use Rattle.jv_base.specs.declared.form.Form.TheVariants.{ClassName, MethodName, MethodDescriptor, FieldDescriptor}
use Rattle.jv_base.specs.declared.form.Progress.{Progress}
use Rattle.jv_base.specs.Names.{IsMethodName}
use Rattle.jv_base.specs.Entry.{IsAnyMethodName}
use Rattle.jv_base.specs.Forms.{IsOfForm}
use Rattle.jv_base.specs.Laws.{IsDecided}
use Rattle.jv_base.specs.Calls.Progress.{run, start_of, is_whole}
use Rattle.jv_base.proofs.FormLemmas.{nowhere, whole_tells}
use Rattle.jv_base.proofs.laws.forms_decided.Goals as goal

module _ (form : Form) (text : List ℕ) where
  by_end : (p : Progress) → run (start_of form) text ≡ Some p → (b : Bool) → is_whole p ≡ b
      → IsOfForm form text ⊎ (IsOfForm form text → ⊥)
  by_end p e true whole = inl ((whole_tells form text p e).0 whole)
  by_end p e false not = inr (λ h. false≢true (sym not ∙ (whole_tells form text p e).1 h))

  by_run : (o : Option Progress) → run (start_of form) text ≡ o → IsOfForm form text ⊎ (IsOfForm form text → ⊥)
  by_run (Some p) e = by_end p e (is_whole p) refl
  by_run None e = inr (λ h. nowhere form text [] e (subst (IsOfForm form) (sym (append-nil text)) h))

decided : (form : Form) → IsDecided (IsOfForm form)
decided form text = by_run form text (run (start_of form) text) refl

module _ (text word : List ℕ) where
  by_test : (b : Bool) → bytes_eq text word ≡ b → (text ≡ word) ⊎ (text ≡ word → ⊥)
  by_test true e = inl ((bytes_eq-Decides text word).0 e)
  by_test false e = inr (λ same. false≢true (sym e ∙ (bytes_eq-Decides text word).1 same))

  is_word : (text ≡ word) ⊎ (text ≡ word → ⊥)
  is_word = by_test (bytes_eq text word) refl

any_of : (P Q R : Type 0) → P ⊎ (P → ⊥) → Q ⊎ (Q → ⊥) → R ⊎ (R → ⊥) → (P ⊎ (Q ⊎ R)) ⊎ (P ⊎ (Q ⊎ R) → ⊥)
any_of P Q R (inl p) q r = inl (inl p)
any_of P Q R (inr not_p) (inl q) r = inl (inr (inl q))
any_of P Q R (inr not_p) (inr not_q) (inl r) = inl (inr (inr r))
any_of P Q R (inr not_p) (inr not_q) (inr not_r) =
    inr (λ h. elim h [ inl p ↦ not_p p | inr s ↦ elim s [ inl q ↦ not_q q | inr r ↦ not_r r ] ])

any_method : IsDecided IsAnyMethodName
any_method text =
    any_of (IsMethodName text) (text ≡ codes "<init>") (text ≡ codes "<clinit>") (decided MethodName text)
    (is_word text (codes "<init>")) (is_word text (codes "<clinit>"))

pub returns : goal.returns
returns c = record {
  class_name = decided ClassName;
  any_method_name = any_method;
  field_descriptor = decided FieldDescriptor;
  method_descriptor = decided MethodDescriptor;
}
