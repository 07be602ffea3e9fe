-- What is read from descriptors is what they describe.
use Rattle.std.proofs.Common.{◌≡◌, ◌≢◌, ℕ, suc, zero, not, ◌==◌, ◌||◌, Bool, true, false, List, [], ◌∷◌, ◌++◌}
use Rattle.std.proofs.Common.{replicate, Option, Some, None, ◌⊎◌, inl, inr}
use Rattle.std.proofs.Common.{refl, sym, ap, subst, ◌∙◌, append_assoc, arith, option_and_then}
use Rattle.std.specs.Prelude.{option_map, IsTrue, IfSome}
use Rattle.std.specs.List.{All, flat_map, join_with_byte}
use Rattle.std.proofs.lemmas.Bool.Decides.{nat_tests}
use Rattle.std.proofs.lemmas.List.{append-nil}
use Rattle.std.proofs.lemmas.List.Elements.{All-nil, All-cons, All-head, All-tail, All-weaker, All-append}
use Rattle.jv_base.specs.Names.{IsNameByte, IsUnqualifiedName, IsClassName}
use Rattle.jv_base.specs.Descriptor.{ElementType, base, object, FieldType, is_base_letter, IsElementType, IsFieldType}
use Rattle.jv_base.specs.Descriptor.{element_text, field_text, MethodType, IsMethodType, result_text, method_text}
use Rattle.ck_shapes.specs.declared.shape.ValueType.{ValueType}
use Rattle.ck_shapes.specs.declared.shape.ValueType.TheVariants.{Reference}
use Rattle.ck_shapes.specs.Descriptors.{letter_type, field_type, result_type, signed, signature_within, signature}
use Rattle.ck_shapes.specs.Laws.{element_value, field_value, field_values, result_value, method_value, Signatures}

abbrev NotMark : ℕ → Type 0
NotMark b = b ≢ 59

-- a number is not another
differs : (a b : ℕ) → a ≢ b → (a == b) ≡ false
differs a b ne = grind (arith, ne)

-- ---- the name of a class has no `;`

parts_without : (parts : List (List ℕ)) → All IsUnqualifiedName parts → All NotMark (join_with_byte 47 parts)
parts_without [] all = All-nil NotMark
parts_without (x ∷ []) all =
    All-weaker IsNameByte NotMark (λ b n. n.1) x (All-head IsUnqualifiedName x [] all).1
parts_without (x ∷ y ∷ xs) all =
    let rest = parts_without (y ∷ xs) (All-tail IsUnqualifiedName x (y ∷ xs) all) in
    All-append NotMark x (47 ∷ join_with_byte 47 (y ∷ xs))
    (All-weaker IsNameByte NotMark (λ b n. n.1) x (All-head IsUnqualifiedName x (y ∷ xs) all).1)
    (All-cons NotMark 47 (join_with_byte 47 (y ∷ xs)) (λ e. omega (arith, e)) rest)

no_mark : (name : List ℕ) → IsClassName name → All NotMark name
no_mark name h = subst (λ (n : List ℕ). All NotMark n) (sym h.3) (parts_without h.0 h.2)

name_read : (found : List ValueType) (array : Bool) (name rest : List ℕ) → All NotMark name
    → signature_within found true array (name ++ 59 ∷ rest) ≡ signature_within found false false rest
name_read found array [] rest none = refl
name_read found array (b ∷ bs) rest none =
    let here = differs b 59 (All-head NotMark b bs none) in
    ap (λ (m : Bool). signature_within found (not m) false (bs ++ 59 ∷ rest)) here
    ∙ name_read found false bs rest (All-tail NotMark b bs none)

-- ---- base types

either : (a b : Bool) → (a || b) ≡ true → (a ≡ true) ⊎ (b ≡ true)
either true b e = inl refl
either false b e = inr e

tested : (n l : ℕ) → (n == l) ≡ true → n ≡ l
tested n l e = grind (arith, nat_tests, e)

module _ (P : ℕ → Type 0) (l : ℕ) where
  one_of : (n : ℕ) (rest : Bool) → P n → (rest ≡ true → P l) → ((n == l) || rest) ≡ true → P l
  one_of n rest here there e = elim (either (n == l) rest e) [
    | inl same ↦ subst P (tested n l same) here
    | inr other ↦ there other
  ]

  base_cases : P 66 → P 67 → P 68 → P 70 → P 73 → P 74 → P 83 → P 90 → IsTrue (is_base_letter l) → P l
  base_cases b c d f i j s z is =
      one_of 66 _ b (one_of 67 _ c (one_of 68 _ d (one_of 70 _ f (one_of 73 _ i (one_of 74 _ j (one_of 83 _ s
      (one_of 90 false z (λ e. absurd cc)))))))) is

letter_value : (l : ℕ) → IsTrue (is_base_letter l) → letter_type l ≡ element_value (base l)
letter_value l is =
    base_cases (λ n. letter_type n ≡ element_value (base n)) l refl refl refl refl refl refl refl refl is

-- ---- one type

abbrev Reads : List ValueType → List ℕ → List ℕ → Option ValueType → Type 0
Reads found text rest value =
    signature_within found false false (text ++ rest)
    ≡ option_and_then (λ v. signature_within (found ++ v ∷ []) false false rest) value

module _ (found : List ValueType) (rest : List ℕ) where
  element_read : (e : ElementType) → IsElementType e → Reads found (element_text e) rest (element_value e)
  element_read (base l) is = base_cases (λ n. Reads found (n ∷ []) rest (element_value (base n))) l
      refl refl refl refl refl refl refl refl is
  element_read (object name) is =
      ap (λ (xs : List ℕ). signature_within (found ++ Reference ∷ []) true false xs)
      (append_assoc name (59 ∷ []) rest)
      ∙ name_read (found ++ Reference ∷ []) false name rest (no_mark name is)

  array_read : (e : ElementType) → IsElementType e
      → signature_within found false true (element_text e ++ rest)
      ≡ signature_within (found ++ Reference ∷ []) false false rest
  array_read (base l) is = base_cases
      (λ n. signature_within found false true (n ∷ rest)
      ≡ signature_within (found ++ Reference ∷ []) false false rest) l
      refl refl refl refl refl refl refl refl is
  array_read (object name) is =
      ap (λ (xs : List ℕ). signature_within (found ++ Reference ∷ []) true false xs)
      (append_assoc name (59 ∷ []) rest)
      ∙ name_read (found ++ Reference ∷ []) false name rest (no_mark name is)

  brackets_read : (array : Bool) (n : ℕ) (text : List ℕ)
      → signature_within found false array (replicate (suc n) 91 ++ text) ≡ signature_within found false true text
  brackets_read array zero text = refl
  brackets_read array (suc n) text = brackets_read true n text

  type_read : (n : ℕ) (e : ElementType) → IsElementType e
      → Reads found (replicate n 91 ++ element_text e) rest (field_value (record { dimensions = n; element = e }))
  type_read zero e is = element_read e is
  type_read (suc n) e is =
      ap (λ (xs : List ℕ). signature_within found false false xs)
      (append_assoc (replicate (suc n) 91) (element_text e) rest)
      ∙ brackets_read false n (element_text e ++ rest) ∙ array_read e is

-- ---- parameters and result

behind_one : (found : List ValueType) (v : ValueType) (o : Option (List ValueType)) (r : Option (Option ValueType))
    → option_and_then (λ vs. signed ((found ++ v ∷ []) ++ vs) r) o
    ≡ option_and_then (λ vs. signed (found ++ vs) r) (option_map (λ vs. v ∷ vs) o)
behind_one found v None r = refl
behind_one found v (Some vs) r = ap (λ (xs : List ValueType). signed xs r) (append_assoc found (v ∷ []) vs)

module _ (rest : List ℕ) where
  abbrev AllRead : List ValueType → List FieldType → Type 0
  AllRead found ts =
      signature_within found false false (flat_map field_text ts ++ 41 ∷ rest)
      ≡ option_and_then (λ vs. signed (found ++ vs) (result_type rest)) (field_values ts)

  next_read : (found : List ValueType) (ts : List FieldType) (o : Option ValueType)
      → ((more : List ValueType) → AllRead more ts)
      → option_and_then (λ v. signature_within (found ++ v ∷ []) false false (flat_map field_text ts ++ 41 ∷ rest)) o
      ≡ option_and_then (λ vs. signed (found ++ vs) (result_type rest))
      (option_and_then (λ v. option_map (λ vs. v ∷ vs) (field_values ts)) o)
  next_read found ts None h = refl
  next_read found ts (Some v) h = h (found ++ v ∷ []) ∙ behind_one found v (field_values ts) (result_type rest)

  parameters_read : (found : List ValueType) (ts : List FieldType) → All IsFieldType ts → AllRead found ts
  parameters_read found [] is = ap (λ (xs : List ValueType). signed xs (result_type rest)) (sym (append-nil found))
  parameters_read found (t ∷ ts) is =
      ap (λ (xs : List ℕ). signature_within found false false xs)
      (append_assoc (field_text t) (flat_map field_text ts) (41 ∷ rest))
      ∙ type_read found (flat_map field_text ts ++ 41 ∷ rest) t.dimensions t.element (All-head IsFieldType t ts is).1
      ∙ next_read found ts (field_value t)
      (λ more. parameters_read more ts (All-tail IsFieldType t ts is))

field_alone : (n : ℕ) (e : ElementType) → IsElementType e
    → field_type (replicate n 91 ++ element_text e) ≡ field_value (record { dimensions = n; element = e })
field_alone zero (base l) is = letter_value l is
field_alone zero (object name) is = refl
field_alone (suc n) e is = refl

result_alone : (n : ℕ) (e : ElementType) → IsElementType e → result_type (replicate n 91 ++ element_text e)
    ≡ option_map (λ v. Some v) (field_value (record { dimensions = n; element = e }))
result_alone zero (base l) is = base_cases
    (λ n. result_type (n ∷ []) ≡ option_map (λ v. Some v) (element_value (base n))) l
    refl refl refl refl refl refl refl refl is
result_alone zero (object name) is = refl
result_alone (suc n) e is = refl

result_read : (o : Option FieldType) → IfSome o IsFieldType → result_type (result_text o) ≡ result_value o
result_read None is = refl
result_read (Some t) is = result_alone t.dimensions t.element is.1

method_read : (m : MethodType) → IsMethodType m → signature (method_text m) ≡ method_value m
method_read m is =
    ap (λ (xs : List ℕ). signature_within [] false false xs)
    (append_assoc (flat_map field_text m.parameters) (41 ∷ []) (result_text m.result))
    ∙ parameters_read (result_text m.result) [] m.parameters is.0
    ∙ ap (λ (r : Option (Option ValueType)). option_and_then (λ vs. signed vs r) (field_values m.parameters))
    (result_read m.result is.1)

pub all : Signatures
all = record { field = λ t is. field_alone t.dimensions t.element is.1; method = method_read }
