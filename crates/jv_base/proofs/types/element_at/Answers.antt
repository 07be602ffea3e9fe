-- An element is told by its first byte.
use Rattle.std.proofs.Common.{◌≡◌, ℕ, List, ◌∷◌, drop, Some, None, sym, ap, subst, ◌∙◌, arith}
use Rattle.std.specs.Prelude.{IfOk, IfNone}
use Rattle.std.proofs.lemmas.Str.Pattern.{strip_prefix_char}
use Rattle.jv_base.specs.Calls.Fronts.{HasFront}
use Rattle.jv_base.specs.Descriptor.{IsElementType, element_text}
use Rattle.jv_base.proofs.DescriptorLemmas.{element_none}
use Rattle.jv_base.proofs.TypeLemmas.{cut_behind_letter}
use Rattle.jv_base.proofs.types.element_at.Goals as goal
use Rattle.jv_list.proofs.PlaceLemmas.{first_with}

abbrev HasNoElement : List ℕ → Type 0
HasNoElement text = (rest : List ℕ) → HasFront IsElementType element_text text rest → ⊥

pub range_from-requires : goal.range_from-requires
range_from-requires c =
    let item = c.in-Some.ensures.item in
    let bytes = c.as_bytes in
    λ _. cut_behind_letter c.args.text.now bytes.result.now c.in-Some.letter.now c.utf8.text bytes.ensures.value
    item.3.0 item.1 c.in-Some-base_of.ensures.letter

pub returns-in-Some-strip_prefix-clause-none : goal.returns-in-Some-strip_prefix-clause-none
returns-in-Some-strip_prefix-clause-none c =
    let class = c.in-Some-strip_prefix in
    let is : c.args.text.now ≡ 76 ∷ class.class.now =
    strip_prefix_char 76 c.args.text.now (Some class.class) class.ensures.cases (omega arith) in
    subst (λ (t : List ℕ). IfOk c.class_at.result (λ o. IfNone o (HasNoElement t))) (sym is) c.class_at.ensures.none

pub returns-in-None-clause-none : goal.returns-in-None-clause-none
returns-in-None-clause-none c =
    let text : List ℕ = c.args.text.now in
    let bytes : List ℕ = c.as_bytes.result.now in
    let letter : ℕ = c.in-Some.letter.now in
    let item = c.in-Some.ensures.item in
    let none = strip_prefix_char 76 text None c.in-None.ensures.cases (omega arith) in
    let split : text ≡ letter ∷ drop 1 bytes = sym c.as_bytes.ensures.value ∙ first_with bytes letter item.3.0 item.1 in
    element_none text (drop 1 bytes) letter split c.in_default-base_of.ensures.none
    (λ e. none (drop 1 bytes) (split ∙ ap (λ (b : ℕ). b ∷ drop 1 bytes) e))
