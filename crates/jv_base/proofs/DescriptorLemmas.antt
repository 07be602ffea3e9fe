-- A descriptor has one form.
use Rattle.std.proofs.Common.{◌≡◌, ◌≢◌, ℕ, ◌≤◌, true, false, List, [], ◌∷◌, ◌++◌, length, replicate, Option, Some, None}
use Rattle.std.proofs.Common.{refl, sym, ap, subst, ◌∙◌, append_assoc, arith}
use Rattle.std.specs.List.{All, flat_map, join_with_byte}
use Rattle.std.specs.Prelude.{IfSome}
use Rattle.std.proofs.lemmas.Bool.{false≢true}
use Rattle.std.proofs.lemmas.List.{append-nil}
use Rattle.std.proofs.lemmas.List.Elements.{All-nil, All-cons, All-head, All-tail, All-weaker, All-append}
use Rattle.jv_base.specs.Names.{IsNameByte, IsUnqualifiedName, IsClassName}
use Rattle.jv_base.specs.Descriptor.{ElementType, base, object, FieldType, MethodType, is_base_letter, IsElementType}
use Rattle.jv_base.specs.Descriptor.{IsFieldType, IsMethodType, IsFieldDescriptor, IsMethodDescriptor, class_text}
use Rattle.jv_base.specs.Descriptor.{element_text, field_text, result_text, method_text}
use Rattle.jv_base.specs.Calls.Fronts.{HasFront}
use Rattle.jv_list.proofs.CutLemmas.{cons_same, cut_same, not_without, run_same}
use Rattle.jv_list.proofs.ToldLemmas.{BeginsNone, told}

-- ---- the bytes of a class name

-- a byte that no unqualified name has, and that is no `/`
module _ (c : ℕ) (slash : 47 ≢ c) (other : (b : ℕ) → IsNameByte b → b ≢ c) where
  part_without : (part : List ℕ) → IsUnqualifiedName part → All (λ b. b ≢ c) part
  part_without part h = All-weaker IsNameByte (λ b. b ≢ c) other part h.1

  joined_without : (parts : List (List ℕ)) → All IsUnqualifiedName parts → All (λ b. b ≢ c) (join_with_byte 47 parts)
  joined_without [] all = All-nil (λ b. b ≢ c)
  joined_without (x ∷ []) all = part_without x (All-head IsUnqualifiedName x [] all)
  joined_without (x ∷ y ∷ xs) all =
      let rest = joined_without (y ∷ xs) (All-tail IsUnqualifiedName x (y ∷ xs) all) in
      All-append (λ b. b ≢ c) x (47 ∷ join_with_byte 47 (y ∷ xs))
      (part_without x (All-head IsUnqualifiedName x (y ∷ xs) all))
      (All-cons (λ b. b ≢ c) 47 (join_with_byte 47 (y ∷ xs)) slash rest)

  pub class_without : (name : List ℕ) → IsClassName name → All (λ b. b ≢ c) name
  class_without name h = subst (λ (n : List ℕ). All (λ b. b ≢ c) n) (sym h.3) (joined_without h.0 h.2)

no_semicolon : (name : List ℕ) → IsClassName name → All (λ b. b ≢ 59) name
no_semicolon = class_without 59 (λ e. omega (arith, e)) (λ b n. n.1)

-- ---- a class name and `;`

module _ (text : List ℕ) (rest : List ℕ) (h : HasFront IsClassName class_text text rest) where
  cut_text : text ≡ h.0 ++ 59 ∷ rest
  cut_text = h.2 ∙ append_assoc h.0 (59 ∷ []) rest

  class_only : (xs ys : List ℕ) → text ≡ xs ++ 59 ∷ ys → All (λ b. b ≢ 59) xs → (IsClassName xs → ⊥) → ⊥
  class_only xs ys e none other =
      let same = cut_same 59 xs h.0 ys rest none (no_semicolon h.0 h.1) (sym e ∙ cut_text) in
      other (subst IsClassName (sym same.0) h.1)

  class_ended : All (λ b. b ≢ 59) text → ⊥
  class_ended none = not_without 59 h.0 rest text cut_text none

pub class_other : (text xs ys : List ℕ) → text ≡ xs ++ 59 ∷ ys → All (λ b. b ≢ 59) xs → (IsClassName xs → ⊥)
    → (rest : List ℕ) → HasFront IsClassName class_text text rest → ⊥
class_other text xs ys e none other rest h = class_only text rest h xs ys e none other

pub class_unended : (text : List ℕ) → All (λ b. b ≢ 59) text
    → (rest : List ℕ) → HasFront IsClassName class_text text rest → ⊥
class_unended text none rest h = class_ended text rest h none

-- ---- elements

-- no byte but these begins an element
element_first : (c : ℕ) → is_base_letter c ≡ false → c ≢ 76 → (t : ElementType) (rest : List ℕ) → IsElementType t
    → (r : List ℕ) → element_text t ++ rest ≢ c ∷ r
element_first c letter class (base b) rest h r e =
    let same : b ≡ c = cc in
    false≢true (sym letter ∙ subst (λ (l : ℕ). is_base_letter l ≡ true) same h)
element_first c letter class (object n) rest h r e = let same : 76 ≡ c = cc in class (sym same)

pub element_none : (text xs : List ℕ) (b : ℕ) → text ≡ b ∷ xs → is_base_letter b ≡ false → b ≢ 76
    → (rest : List ℕ) → HasFront IsElementType element_text text rest → ⊥
element_none text xs b e letter class rest h = element_first b letter class h.0 rest h.1 xs (sym h.2 ∙ e)

letter_no_class : (b : ℕ) → IsElementType (base b) → b ≢ 76
letter_no_class b h e = false≢true (subst (λ (l : ℕ). is_base_letter l ≡ true) e h)

not_class : (t : ElementType) (xs rest : List ℕ) → IsElementType t → 76 ∷ xs ≡ element_text t ++ rest
    → ((r : List ℕ) → HasFront IsClassName class_text xs r → ⊥) → ⊥
not_class (base b) xs rest h e none = let letter : b ≡ 76 = cc in letter_no_class b h letter
not_class (object n) xs rest h e none = let same : xs ≡ class_text n ++ rest = cc in none rest (n, h, same)

pub element_no_class : (text xs : List ℕ) → text ≡ 76 ∷ xs → ((r : List ℕ) → HasFront IsClassName class_text xs r → ⊥)
    → (rest : List ℕ) → HasFront IsElementType element_text text rest → ⊥
element_no_class text xs e none rest h = not_class h.0 xs rest h.1 (sym e ∙ h.2) none

element_told : (t u : ElementType) (x y : List ℕ) → IsElementType t → IsElementType u
    → element_text t ++ x ≡ element_text u ++ y → (t ≡ u) × (x ≡ y)
element_told (base b) (base c) x y h k e =
    let letter : b ≡ c = cc in
    let rest : x ≡ y = cc in
    (ap base letter, rest)
element_told (base b) (object n) x y h k e = let letter : b ≡ 76 = cc in absurd (letter_no_class b h letter)
element_told (object m) (base c) x y h k e = let letter : c ≡ 76 = cc in absurd (letter_no_class c k letter)
element_told (object m) (object n) x y h k e =
    let rest : class_text m ++ x ≡ class_text n ++ y = cc in
    let cut : m ++ 59 ∷ x ≡ n ++ 59 ∷ y = sym (append_assoc m (59 ∷ []) x) ∙ rest ∙ append_assoc n (59 ∷ []) y in
    let same = cut_same 59 m n x y (no_semicolon m h) (no_semicolon n k) cut in
    (ap object same.0, same.1)

-- ---- field types

no_bracket : (t : ElementType) (rest : List ℕ) → IsElementType t → (r : List ℕ) → element_text t ++ rest ≢ 91 ∷ r
no_bracket = element_first 91 refl (λ e. omega (arith, e))

field_split : (t : FieldType) (rest : List ℕ)
    → field_text t ++ rest ≡ replicate t.dimensions 91 ++ (element_text t.element ++ rest)
field_split t rest = append_assoc (replicate t.dimensions 91) (element_text t.element) rest

-- a field type behind brackets has them all
pub field_parts : (text xs rest : List ℕ) (n : ℕ) → text ≡ replicate n 91 ++ xs → ((r : List ℕ) → xs ≢ 91 ∷ r)
    → HasFront IsFieldType field_text text rest → (n ≤ 255) × HasFront IsElementType element_text xs rest
field_parts text xs rest n e first (t, h, k) =
    let behind : List ℕ = element_text t.element ++ rest in
    let same = run_same 91 n t.dimensions xs behind first (no_bracket t.element rest h.1)
    (sym e ∙ k ∙ field_split t rest) in
    (rw same.0 h.0, (t.element, h.1, same.1))

pub field_told : (t u : FieldType) (x y : List ℕ) → IsFieldType t → IsFieldType u
    → field_text t ++ x ≡ field_text u ++ y
    → (t ≡ u) × (x ≡ y)
field_told t u x y h k e =
    let same = run_same 91 t.dimensions u.dimensions (element_text t.element ++ x) (element_text u.element ++ y)
    (no_bracket t.element x h.1) (no_bracket u.element y k.1) (sym (field_split t x) ∙ e ∙ field_split u y) in
    let element = element_told t.element u.element x y h.1 k.1 same.1 in
    let type : ℕ → ElementType → FieldType = λ n s. record { dimensions = n; element = s } in
    (ap (λ (n : ℕ). type n t.element) same.0 ∙ ap (λ (s : ElementType). type u.dimensions s) element.0, element.1)

abbrev pub HasNoField : List ℕ → Type 0
HasNoField text = (rest : List ℕ) → HasFront IsFieldType field_text text rest → ⊥

-- a byte that begins no field type
field_first : (c : ℕ) → is_base_letter c ≡ false → c ≢ 76 → c ≢ 91 → (r : List ℕ) → HasNoField (c ∷ r)
field_first c letter class array r rest h =
    let parts = field_parts (c ∷ r) (c ∷ r) rest 0 refl (λ s e. array (cons_same c 91 r s e).0) h in
    element_none (c ∷ r) r c refl letter class rest parts.1

pub no_field_closed : (r : List ℕ) → HasNoField (41 ∷ r)
no_field_closed = field_first 41 refl (λ z. omega (arith, z)) (λ z. omega (arith, z))

no_field_void : (r : List ℕ) → HasNoField (86 ∷ r)
no_field_void = field_first 86 refl (λ z. omega (arith, z)) (λ z. omega (arith, z))

begins_none : (text : List ℕ) → HasNoField text → BeginsNone field_text IsFieldType text
begins_none text none t behind h e = none behind (t, h, e)

-- parameters, and what follows them, are told by their text
pub parameters_told : (ts us : List FieldType) (x y : List ℕ) → All IsFieldType ts → All IsFieldType us → HasNoField x
    → HasNoField y → flat_map field_text ts ++ x ≡ flat_map field_text us ++ y → (ts ≡ us) × (x ≡ y)
parameters_told ts us x y h k no_x no_y e =
    told field_text IsFieldType field_told ts us x y h k (begins_none x no_x) (begins_none y no_y) e

-- ---- a field type alone

pub field_rest : (text rest : List ℕ) (t : FieldType) → IsFieldType t → text ≡ field_text t ++ rest
    → IsFieldDescriptor text → length rest ≡ 0
field_rest text rest t h e (u, k, f) =
    ap length (field_told t u rest [] h k (sym e ∙ f ∙ sym (append-nil (field_text u)))).1

pub no_field_in : (text : List ℕ) → HasNoField text → IsFieldDescriptor text → ⊥
no_field_in text none h = none [] (h.0, h.1, h.2 ∙ sym (append-nil (field_text h.0)))

-- ---- results

abbrev pub IsResultText : List ℕ → Type 0
IsResultText text = (r : Option FieldType) × IfSome r IsFieldType × (text ≡ result_text r)

pub result_told : (r s : Option FieldType) → IfSome r IsFieldType → IfSome s IsFieldType
    → result_text r ≡ result_text s → r ≡ s
result_told None None h k e = refl
result_told None (Some u) h k e = absurd (no_field_void [] [] (u, k, e ∙ sym (append-nil (field_text u))))
result_told (Some t) None h k e = absurd (no_field_void [] [] (t, h, sym e ∙ sym (append-nil (field_text t))))
result_told (Some t) (Some u) h k e =
    let whole = append-nil (field_text t) ∙ e ∙ sym (append-nil (field_text u)) in
    ap (λ (f : FieldType). Some f) (field_told t u [] [] h k whole).0

-- ---- descriptors

pub field_alone : (t u : FieldType) → IsFieldType t → IsFieldType u → field_text t ≡ field_text u → t ≡ u
field_alone t u h k e =
    (field_told t u [] [] h k (append-nil (field_text t) ∙ e ∙ sym (append-nil (field_text u)))).0

pub method_alone : (m n : MethodType) → IsMethodType m → IsMethodType n → method_text m ≡ method_text n → m ≡ n
method_alone m n h k e =
    let behind : MethodType → List ℕ = λ t. 41 ∷ result_text t.result in
    let split : (t : MethodType) → (flat_map field_text t.parameters ++ 41 ∷ []) ++ result_text t.result
    ≡ flat_map field_text t.parameters ++ behind t =
    λ t. append_assoc (flat_map field_text t.parameters) (41 ∷ []) (result_text t.result) in
    let inner : (flat_map field_text m.parameters ++ 41 ∷ []) ++ result_text m.result
    ≡ (flat_map field_text n.parameters ++ 41 ∷ []) ++ result_text n.result =
    cc in
    let parts = parameters_told m.parameters n.parameters (behind m) (behind n) h.0 k.0
    (no_field_closed (result_text m.result)) (no_field_closed (result_text n.result))
    (sym (split m) ∙ inner ∙ split n) in
    let results : result_text m.result ≡ result_text n.result = let whole = parts.1 in cc in
    let type : List FieldType → Option FieldType → MethodType = λ ps r. record { parameters = ps; result = r } in
    ap (λ (ps : List FieldType). type ps m.result) parts.0
    ∙ ap (λ (r : Option FieldType). type n.parameters r) (result_told m.result n.result h.1 k.1 results)

-- what follows the parameters of a descriptor is `)` and a result
method_parts : (text parameters rest : List ℕ) → text ≡ 40 ∷ parameters
    → HasFront (All IsFieldType) (flat_map field_text) parameters rest → HasNoField rest → IsMethodDescriptor text
    → (returned : List ℕ) × (rest ≡ 41 ∷ returned) × IsResultText returned
method_parts text parameters rest e (ts, fits, is) none (m, h, k) =
    let after : List ℕ = 41 ∷ result_text m.result in
    let split : method_text m ≡ 40 ∷ (flat_map field_text m.parameters ++ after) =
    ap (λ (s : List ℕ). 40 ∷ s) (append_assoc (flat_map field_text m.parameters) (41 ∷ []) (result_text m.result)) in
    let whole : 40 ∷ parameters ≡ 40 ∷ (flat_map field_text m.parameters ++ after) = sym e ∙ k ∙ split in
    let same : parameters ≡ flat_map field_text m.parameters ++ after =
    (cons_same 40 40 parameters (flat_map field_text m.parameters ++ after) whole).1 in
    let closed = no_field_closed (result_text m.result) in
    let told = parameters_told ts m.parameters rest after fits h.0 none closed (sym is ∙ same) in
    (result_text m.result, told.1, (m.result, h.1, refl))

pub method_refused : (text parameters rest : List ℕ) → text ≡ 40 ∷ parameters
    → HasFront (All IsFieldType) (flat_map field_text) parameters rest → HasNoField rest
    → ((returned : List ℕ) → rest ≢ 41 ∷ returned) → IsMethodDescriptor text → ⊥
method_refused text parameters rest e k none other h =
    let parts = method_parts text parameters rest e k none h in
    other parts.0 parts.1

pub no_method_first : (text : List ℕ) → ((rest : List ℕ) → text ≢ 40 ∷ rest) → IsMethodDescriptor text → ⊥
no_method_first text none h = none _ h.2

pub no_method_result : (text parameters rest returned : List ℕ) → text ≡ 40 ∷ parameters
    → HasFront (All IsFieldType) (flat_map field_text) parameters rest → HasNoField rest → rest ≡ 41 ∷ returned
    → ((r : Option FieldType) → IfSome r IsFieldType → returned ≡ result_text r → ⊥) → IsMethodDescriptor text → ⊥
no_method_result text parameters rest returned e k none at other h =
    let parts = method_parts text parameters rest e k none h in
    let same = cons_same 41 41 returned parts.0 (sym at ∙ parts.1) in
    other parts.2.0 parts.2.1 (same.1 ∙ parts.2.2)
