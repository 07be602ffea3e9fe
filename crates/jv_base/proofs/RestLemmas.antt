-- What may follow how far a text has come, so that it has its form; and what may come before that in a name.
use Rattle.std.proofs.Common.{◌≡◌, ◌≢◌, ℕ, ◌<◌, ◌≤◌, Bool, true, false, ◌==◌, not, ◌&&◌, List}
use Rattle.std.proofs.Common.{[], ◌∷◌, ◌++◌, length, replicate, Option, Some, None, refl, sym, ap, subst, ◌∙◌}
use Rattle.std.proofs.Common.{arith, if◌then◌else◌}
use Rattle.std.specs.List.{All, flat_map, join_with_byte}
use Rattle.std.specs.Prelude.{IfSome}
use Rattle.std.proofs.lemmas.Bool.{cond_both, eqb-true, eqb-false, not-true, and_parts}
use Rattle.std.proofs.lemmas.List.Elements.{All-nil, All-cons}
use Rattle.jv_base.specs.declared.form.Progress.{Progress}
use Rattle.jv_base.specs.declared.form.Progress.TheVariants.{InClass, InMethod, Open, Parameters, Field, Named, End}
use Rattle.jv_base.specs.Names.{IsNameByte, IsUnqualifiedName, IsClassName, IsMethodName}
use Rattle.jv_base.specs.Descriptor.{MethodType}
use Rattle.jv_base.specs.Descriptor.{IsMethodType, IsMethodDescriptor, IsFieldDescriptor}
use Rattle.jv_base.specs.Descriptor.{field_text, result_text}
use Rattle.jv_base.specs.Calls.Progress.{is_name_character, class_step, method_step, in_class, in_method}
use Rattle.jv_base.proofs.DescriptorLemmas.{IsResultText}

-- ---- what may follow

-- the rest of a class name, by whether the part at hand has a character
abbrev pub ClassRest : Bool → List ℕ → Type 0
ClassRest false rest = IsClassName rest
ClassRest true rest =
    (part : List ℕ) × (parts : List (List ℕ)) × All IsNameByte part × All IsUnqualifiedName parts
    × (rest ≡ join_with_byte 47 (part ∷ parts))

abbrev pub IsMethodCharacter : ℕ → Type 0
IsMethodCharacter b = (b ≢ 60) × (b ≢ 62)

abbrev pub MethodRest : Bool → List ℕ → Type 0
MethodRest false rest = IsMethodName rest
MethodRest true rest = All IsNameByte rest × All IsMethodCharacter rest

-- a method descriptor behind its `(`
abbrev pub ParametersText : List ℕ → Type 0
ParametersText text =
    (m : MethodType) × IsMethodType m
    × (text ≡ (flat_map field_text m.parameters ++ 41 ∷ []) ++ result_text m.result)

abbrev pub LastText : Bool → List ℕ → Type 0
LastText true text = IsResultText text
LastText false text = IsFieldDescriptor text

-- behind a field type, by whether it is a parameter
abbrev pub TypeRest : Bool → List ℕ → Type 0
TypeRest true rest = ParametersText rest
TypeRest false rest = rest ≡ []

-- what makes a text of the form of what led to the progress, where the dimensions so far are no more than 255
abbrev pub Rest : Progress → List ℕ → Type 0
Rest (InClass some) rest = ClassRest some rest
Rest (InMethod some) rest = MethodRest some rest
Rest Open rest = IsMethodDescriptor rest
Rest (Parameters dimensions) rest = dimensions ≤ 255 → ParametersText (replicate dimensions 91 ++ rest)
Rest (Field dimensions last) rest = dimensions ≤ 255 → LastText last (replicate dimensions 91 ++ rest)
Rest (Named parameter some) rest =
    (name : List ℕ) × (after : List ℕ) × ClassRest some name × TypeRest parameter after × (rest ≡ name ++ 59 ∷ after)
Rest End rest = rest ≡ []

-- ---- names

no_test : (c k : ℕ) → (not (c == k)) ≡ true → c ≢ k
no_test c k e = eqb-false c k (not-true (c == k) e)

name_byte : (c : ℕ) → is_name_character c ≡ true → IsNameByte c
name_byte c e =
    let zero = and_parts (not (c == 46) && not (c == 59) && not (c == 91) && not (c == 47)) (not (c == 0)) e in
    let slash = and_parts (not (c == 46) && not (c == 59) && not (c == 91)) (not (c == 47)) zero.0 in
    let bracket = and_parts (not (c == 46) && not (c == 59)) (not (c == 91)) slash.0 in
    let semicolon = and_parts (not (c == 46)) (not (c == 59)) bracket.0 in
    let first = no_test c 46 semicolon.0 in
    (first, no_test c 59 semicolon.1, no_test c 91 bracket.1, no_test c 47 slash.1, no_test c 0 zero.1)

joined_more : (c : ℕ) (part : List ℕ) (parts : List (List ℕ))
    → c ∷ join_with_byte 47 (part ∷ parts) ≡ join_with_byte 47 ((c ∷ part) ∷ parts)
joined_more c part [] = refl
joined_more c part (x ∷ xs) = refl

joined_slash : (parts : List (List ℕ)) → 0 < length parts
    → 47 ∷ join_with_byte 47 parts ≡ join_with_byte 47 ([] ∷ parts)
joined_slash [] some = absurd (omega arith)
joined_slash (x ∷ xs) some = refl

character_before : (some : Bool) (c : ℕ) (rest : List ℕ) → IsNameByte c → ClassRest true rest
    → ClassRest some (c ∷ rest)
character_before true c rest n h =
    (c ∷ h.0, h.1, All-cons IsNameByte c h.0 n h.2, h.3, ap (λ (t : List ℕ). c ∷ t) h.4 ∙ joined_more c h.0 h.1)
character_before false c rest n h = (
  (c ∷ h.0) ∷ h.1,
  omega arith,
  All-cons IsUnqualifiedName (c ∷ h.0) h.1 (omega arith, All-cons IsNameByte c h.0 n h.2) h.3,
  ap (λ (t : List ℕ). c ∷ t) h.4 ∙ joined_more c h.0 h.1,
)

slash_before : (some : Bool) (rest : List ℕ)
    → IfSome (if some then Some false else None) (λ s. ClassRest s rest → ClassRest some (47 ∷ rest))
slash_before true rest = λ h. ([], h.0, All-nil IsNameByte, h.2, ap (λ (t : List ℕ). 47 ∷ t) h.3 ∙ joined_slash h.0 h.1)
slash_before false rest = tt

pub class_before : (some : Bool) (c : ℕ) (rest : List ℕ)
    → IfSome (class_step some c) (λ s. ClassRest s rest → ClassRest some (c ∷ rest))
class_before some c rest =
    let P : ℕ → Bool → Type 0 = λ k s. ClassRest s rest → ClassRest some (k ∷ rest) in
    let Slash : ℕ → Type 0 = λ k. IfSome (if some then Some false else None) (P k) in
    cond_both (c == 47) _ _ (λ o. IfSome o (P c)) (λ e. subst Slash (sym (eqb-true c 47 e)) (slash_before some rest))
    (λ n. cond_both (is_name_character c) _ _ (λ o. IfSome o (P c))
    (λ e. character_before some c rest (name_byte c e)) (λ o. tt))

method_character_before : (some : Bool) (c : ℕ) (rest : List ℕ) → IsNameByte c → IsMethodCharacter c
    → MethodRest true rest → MethodRest some (c ∷ rest)
method_character_before true c rest n m h =
    (All-cons IsNameByte c rest n h.0, All-cons IsMethodCharacter c rest m h.1)
method_character_before false c rest n m h =
    ((omega arith, All-cons IsNameByte c rest n h.0), All-cons IsMethodCharacter c rest m h.1)

pub method_before : (some : Bool) (c : ℕ) (rest : List ℕ)
    → IfSome (in_method (method_step c)) (λ p. Rest p rest → MethodRest some (c ∷ rest))
method_before some c rest = by_test (is_name_character c && not (c == 60) && not (c == 62)) (λ e.
    let greater = and_parts (is_name_character c && not (c == 60)) (not (c == 62)) e in
    let less = and_parts (is_name_character c) (not (c == 60)) greater.0 in
    method_character_before some c rest (name_byte c less.0) (no_test c 60 less.1, no_test c 62 greater.1))
  where
    by_test : (test : Bool) → (test ≡ true → MethodRest true rest → MethodRest some (c ∷ rest))
        → IfSome (in_method (if test then Some true else None)) (λ p. Rest p rest → MethodRest some (c ∷ rest))
    by_test true h = h refl
    by_test false h = tt

pub in_class_before : (class : Option Bool) (rest : List ℕ) (Whole : Type 0)
    → IfSome class (λ s. ClassRest s rest → Whole)
    → IfSome (in_class class) (λ p. Rest p rest → Whole)
in_class_before None rest Whole h = tt
in_class_before (Some s) rest Whole h = h

pub class_ended : ClassRest true []
class_ended = ([], [], All-nil IsNameByte, All-nil IsUnqualifiedName, refl)
