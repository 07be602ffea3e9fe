-- A text spells one name at most.
use Rattle.std.proofs.Common.{◌≡◌, ℕ, List, sym, subst, ◌∙◌}
use Rattle.std.specs.Str.{IsUtf8}
use Rattle.std.proofs.lemmas.Bool.{both_ways}
use Rattle.jv_base.specs.Forms.{IsOfForm}
use Rattle.jv_base.specs.Spelling.{name_text}
use Rattle.jv_base.proofs.SpelledFrontLemmas.{not_spelled}
use Rattle.jv_base.proofs.spelled.part_of.Goals.{in_default-via-in-Some+else-is_of_form, in_default-via-in_default}
use Rattle.jv_base.proofs.spelled.part_of.Goals as goal

pub returns-in_default-clause-fault : goal.returns-in_default-clause-fault
returns-in_default-clause-fault c = λ at e. record {
  outside = elim c.in_default.branch [
    | in_default-via-in-Some+else-is_of_form w ↦
        let name : List ℕ = w.in-Some.name in
        let found : IsUtf8 name × (c.args.text.now ≡ name_text name) =
        rw w.in-Some.is at c.in_ok-name.ensures.found in
        let read : w.as_bytes.result.now ≡ name = w.as_bytes.ensures.value ∙ w.as_str.ensures in
        let to = w.is_of_form.ensures.1 in
        not_spelled c.args.form c.args.text.now name found.0 found.1
        (λ of. both_ways w.is_of_form.result w.if-is_of_form.false (to (subst (IsOfForm c.args.form) (sym read) of)))
    | in_default-via-in_default w ↦
        let none : (n : List ℕ) → IsUtf8 n → c.args.text.now ≡ name_text n → ⊥ =
        rw w.in_default.is at c.in_ok-name.ensures.none in
        λ h. none h.0 h.1 h.3
  ];
  count = c.spelled_front.result;
  sum = cc;
  front = c.spelled_front.ensures.longest;
}
