-- The name ends at the first `;`.
use Rattle.std.proofs.Common.{◌≢◌, ℕ, List, ◌∷◌, Some, None, refl, sym, subst, arith}
use Rattle.std.proofs.lemmas.Bool.{both_ways}
use Rattle.std.proofs.lemmas.List.Elements.{All-from_get_or}
use Rattle.std.proofs.lemmas.Str.Pattern.{split_parts}
use Rattle.jv_base.specs.Names.{IsClassName}
use Rattle.jv_base.proofs.DescriptorLemmas.{class_other, class_unended, element_no_class}
use Rattle.jv_base.proofs.TypeLemmas.{class_value}
use Rattle.jv_base.proofs.types.class_at.Goals as goal

abbrev HasNoMark : ℕ → Type 0
HasNoMark b = b ≢ 59

pub returns-in_default-clause-none : goal.returns-in_default-clause-none
returns-in_default-clause-none c =
    let text : List ℕ = c.args.text.now in
    let none = split_parts 59 text None c.in_default.ensures.cases (omega arith) in
    element_no_class (76 ∷ text) text refl (class_unended text (All-from_get_or HasNoMark text 0 none))

pub returns-then-not-is_of_form-clause-none : goal.returns-then-not-is_of_form-clause-none
returns-then-not-is_of_form-clause-none c =
    let text : List ℕ = c.args.text.now in
    let name : List ℕ = c.in-Some.name.now in
    let parts = split_parts 59 text (Some (c.in-Some.name, c.in-Some.rest)) c.in-Some.ensures.cases (omega arith) in
    let not = both_ways c.is_of_form.result c.if-not-is_of_form.true in
    let other : IsClassName name → ⊥ =
    λ n. not (c.is_of_form.ensures.1 (subst IsClassName (sym c.as_bytes.ensures.value) n)) in
    element_no_class (76 ∷ text) text refl
    (class_other text name c.in-Some.rest.now parts.0 (All-from_get_or HasNoMark name 0 parts.1) other)

pub returns-clause-found : goal.returns-clause-found
returns-clause-found c =
    let text : List ℕ = c.args.text.now in
    let parts = split_parts 59 text (Some (c.in-Some.name, c.in-Some.rest)) c.in-Some.ensures.cases (omega arith) in
    let is : IsClassName c.in-Some.name.now =
    subst IsClassName c.as_bytes.ensures.value (c.is_of_form.ensures.0 c.if-not-is_of_form.false) in
    let made = c.in_ok-from_text in
    class_value text c.in-Some.name.now c.in-Some.rest.now made.field-0 parts.0 is made.ensures
