-- What descriptors say of classes, floats and doubles, read from their texts.
use Rattle.std.proofs.Common.{◌≡◌, ◌≢◌, ℕ, suc, zero, ◌<◌, not, ◌==◌, ◌||◌, Bool, true, false, List, [], ◌∷◌, ◌++◌}
use Rattle.std.proofs.Common.{replicate, Option, Some, None}
use Rattle.std.proofs.Common.{refl, sym, ap, subst, ◌∙◌, append_assoc, arith}
use Rattle.std.proofs.lemmas.Bool.{false≢true}
use Rattle.std.specs.List.{All, flat_map, list_any}
use Rattle.std.specs.Prelude.{option_to_list, IfSome}
use Rattle.std.proofs.lemmas.List.{append-nil}
use Rattle.std.proofs.lemmas.List.Elements.{All-head, All-tail}
use Rattle.jv_base.specs.Names.{IsClassName}
use Rattle.jv_base.specs.Descriptor.{ElementType, base, object, FieldType, is_base_letter, IsElementType, IsFieldType}
use Rattle.jv_base.specs.Descriptor.{element_text, field_text}
use Rattle.jv_base.specs.Descriptor.{MethodType, IsMethodType, result_text, method_text}
use Rattle.bd_scan.specs.Descriptors.{without_brackets, before_mark, object_class, named_class, has_float}
use Rattle.bd_scan.specs.Descriptors.{has_float_within}
use Rattle.bd_scan.specs.Laws.{element_class, is_real, has_real, ClassNames, FloatDescriptors}
use Rattle.bd_scan.proofs.NameLemmas.{no_mark, no_bracket}

abbrev NotMark : ℕ → Type 0
NotMark b = b ≢ 59

abbrev NotBracket : ℕ → Type 0
NotBracket b = b ≢ 91

-- a number is not another
differs : (a b : ℕ) → a ≢ b → (a == b) ≡ false
differs a b ne = grind (arith, ne)

-- ---- brackets

more_brackets : (n : ℕ) (text : List ℕ) → without_brackets (replicate n 91 ++ text) ≡ without_brackets text
more_brackets zero text = refl
more_brackets (suc n) text = more_brackets n text

brackets_real : (n : ℕ) (text : List ℕ) → has_float_within false (replicate n 91 ++ text) ≡ has_float_within false text
brackets_real zero text = refl
brackets_real (suc n) text = brackets_real n text

pub no_bracket_first : (text : List ℕ) → ((rest : List ℕ) → text ≢ 91 ∷ rest) → without_brackets text ≡ text
no_bracket_first [] none = refl
no_bracket_first (b ∷ bs) none =
    rw (differs b 91 (λ e. none bs (ap (λ (c : ℕ). c ∷ bs) e))) refl

pub no_array : (text : List ℕ) → ((rest : List ℕ) → text ≢ 91 ∷ rest) → named_class text ≡ Some text
no_array [] none = refl
no_array (b ∷ bs) none =
    rw (differs b 91 (λ e. none bs (ap (λ (c : ℕ). c ∷ bs) e))) refl

pub no_object : (text : List ℕ) → ((rest : List ℕ) → text ≢ 76 ∷ rest) → object_class text ≡ None
no_object [] none = refl
no_object (b ∷ bs) none =
    rw (differs b 76 (λ e. none bs (ap (λ (c : ℕ). c ∷ bs) e))) refl

-- ---- the name of a class

pub before : (name rest : List ℕ) → All NotMark name → before_mark (name ++ 59 ∷ rest) ≡ name
before [] rest none = refl
before (b ∷ bs) rest none =
    let here = differs b 59 (All-head NotMark b bs none) in
    rw here (ap (λ (xs : List ℕ). b ∷ xs) (before bs rest (All-tail NotMark b bs none)))

-- a text without a mark
pub before_none : (name : List ℕ) → All NotMark name → before_mark name ≡ name
before_none [] none = refl
before_none (b ∷ bs) none =
    let here = differs b 59 (All-head NotMark b bs none) in
    rw here (ap (λ (xs : List ℕ). b ∷ xs) (before_none bs (All-tail NotMark b bs none)))

name_real : (name rest : List ℕ) → All NotMark name
    → has_float_within true (name ++ 59 ∷ rest) ≡ has_float_within false rest
name_real [] rest none = refl
name_real (b ∷ bs) rest none =
    let here = differs b 59 (All-head NotMark b bs none) in
    ap (λ (m : Bool). has_float_within (not m) (bs ++ 59 ∷ rest)) here ∙ name_real bs rest (All-tail NotMark b bs none)

pub class_named : (name : List ℕ) → IsClassName name → named_class name ≡ Some name
class_named [] is = refl
class_named (b ∷ bs) is = rw (differs b 91 (All-head NotBracket b bs (no_bracket (b ∷ bs) is))) refl

-- ---- elements

letter_is_not : (c letter : ℕ) → is_base_letter c ≡ false → IsElementType (base letter) → letter ≢ c
letter_is_not c letter other is e = false≢true (sym other ∙ subst (λ (l : ℕ). is_base_letter l ≡ true) e is)

element_named : (e : ElementType) → IsElementType e → object_class (without_brackets (element_text e)) ≡ element_class e
element_named (base letter) is =
    rw (differs letter 91 (letter_is_not 91 letter refl is), differs letter 76 (letter_is_not 76 letter refl is)) refl
element_named (object name) is = ap (λ (n : List ℕ). Some n) (before name [] (no_mark name is))

or_in : (a b c : Bool) → (a || (b || c)) ≡ ((a || b) || c)
or_in true b c = refl
or_in false b c = refl

element_real : (e : ElementType) (rest : List ℕ) → IsElementType e
    → has_float_within false (element_text e ++ rest) ≡ (is_real e || has_float_within false rest)
element_real (base letter) rest is =
    rw (differs letter 76 (letter_is_not 76 letter refl is)) refl
element_real (object name) rest is =
    ap (λ (xs : List ℕ). has_float_within true xs) (append_assoc name (59 ∷ []) rest)
    ∙ name_real name rest (no_mark name is)

-- ---- types

array_named : (n : ℕ) (e : ElementType) → 0 < n → IsElementType e
    → named_class (replicate n 91 ++ element_text e) ≡ element_class e
array_named zero e more is = absurd (omega (arith, more))
array_named (suc n) e more is = ap object_class (more_brackets n (element_text e)) ∙ element_named e is

field_real : (t : FieldType) (rest : List ℕ) → IsFieldType t
    → has_float_within false (field_text t ++ rest) ≡ (has_real t || has_float_within false rest)
field_real t rest is =
    ap (λ (xs : List ℕ). has_float_within false xs)
    (append_assoc (replicate t.dimensions 91) (element_text t.element) rest)
    ∙ brackets_real t.dimensions (element_text t.element ++ rest) ∙ element_real t.element rest is.1

or_none : (a : Bool) → (a || false) ≡ a
or_none true = refl
or_none false = refl

field_alone : (t : FieldType) → IsFieldType t → has_float (field_text t) ≡ has_real t
field_alone t is =
    ap (λ (xs : List ℕ). has_float_within false xs) (sym (append-nil (field_text t)))
    ∙ field_real t [] is ∙ or_none (has_real t)

parameters_real : (ts : List FieldType) (rest : List ℕ) → All IsFieldType ts
    → has_float_within false (flat_map field_text ts ++ rest) ≡ (list_any has_real ts || has_float_within false rest)
parameters_real [] rest is = refl
parameters_real (t ∷ ts) rest is =
    let more : List ℕ = flat_map field_text ts ++ rest in
    ap (λ (xs : List ℕ). has_float_within false xs) (append_assoc (field_text t) (flat_map field_text ts) rest)
    ∙ field_real t more (All-head IsFieldType t ts is)
    ∙ ap (λ (b : Bool). has_real t || b) (parameters_real ts rest (All-tail IsFieldType t ts is))
    ∙ or_in (has_real t) (list_any has_real ts) (has_float_within false rest)

result_real : (o : Option FieldType) → IfSome o IsFieldType
    → has_float (result_text o) ≡ list_any has_real (option_to_list o)
result_real None is = refl
result_real (Some t) is = field_alone t is ∙ sym (or_none (has_real t))

method_real : (m : MethodType) → IsMethodType m
    → has_float (method_text m) ≡ (list_any has_real m.parameters || list_any has_real (option_to_list m.result))
method_real m is =
    ap (λ (xs : List ℕ). has_float_within false xs)
    (append_assoc (flat_map field_text m.parameters) (41 ∷ []) (result_text m.result))
    ∙ parameters_real m.parameters (41 ∷ result_text m.result) is.0
    ∙ ap (λ (b : Bool). list_any has_real m.parameters || b) (result_real m.result is.1)

-- ---- the laws

pub named : ClassNames
named = record {
  class = class_named;
  array = λ t is more. array_named t.dimensions t.element more is.1;
}

pub floats : FloatDescriptors
floats = record { field = field_alone; method = method_real }
