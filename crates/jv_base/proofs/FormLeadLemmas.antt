-- The texts of the forms lead somewhere.
use Rattle.std.proofs.Common.{◌≡◌, ◌≢◌, ℕ, zero, suc, ◌+◌, ◌<◌, ◌≤◌, Bool, true, false, List, [], ◌∷◌, ◌++◌, length}
use Rattle.std.proofs.Common.{replicate, Option, Some, None, refl, sym, ap, subst, ◌∙◌, append_assoc, append-nil, arith}
use Rattle.std.proofs.Common.{inl, inr, IsTrue, if◌then◌else◌}
use Rattle.std.specs.List.{All, flat_map, join_with_byte}
use Rattle.std.specs.Prelude.{IfSome}
use Rattle.std.proofs.lemmas.Bool.{false≢true, lt-leb, ne_eqb}
use Rattle.std.proofs.lemmas.Bool.Decides.{eqb_tells}
use Rattle.std.proofs.lemmas.List.Elements.{All-head, All-tail}
use Rattle.jv_base.specs.declared.form.Form.{Form}
use Rattle.jv_base.specs.declared.form.Form.TheVariants.{ClassName, MethodName, MethodDescriptor, FieldDescriptor}
use Rattle.jv_base.specs.declared.form.Progress.{Progress}
use Rattle.jv_base.specs.declared.form.Progress.TheVariants.{InClass, InMethod, Open, Parameters, Field, Named, End}
use Rattle.jv_base.specs.Names.{IsNameByte, IsUnqualifiedName, IsClassName, IsMethodName}
use Rattle.jv_base.specs.Descriptor.{ElementType, base, object, FieldType, MethodType, is_base_letter, IsElementType}
use Rattle.jv_base.specs.Descriptor.{IsFieldType, IsMethodType, element_text, field_text, result_text, method_text}
use Rattle.jv_base.specs.Forms.{IsOfForm}
use Rattle.jv_base.specs.Calls.Progress.{class_step, named, after_type, bracket, step, run, run_from, start_of}
use Rattle.jv_base.specs.Calls.Progress.{is_whole}

-- one step of a run
goes : (p q : Progress) (c : ℕ) (cs : List ℕ) → step p c ≡ Some q → run p (c ∷ cs) ≡ run q cs
goes p q c cs e = ap (λ (o : Option Progress). run_from o cs) e

-- ---- names

module _ (c : ℕ) (n : IsNameByte c) where
  class_character : (some : Bool) → class_step some c ≡ Some true
  class_character some = rw (ne_eqb c 47 n.3, ne_eqb c 46 n.0, ne_eqb c 59 n.1, ne_eqb c 91 n.2, ne_eqb c 0 n.4) refl

  method_character : (some : Bool) → (c ≢ 60) × (c ≢ 62) → step (InMethod some) c ≡ Some (InMethod true)
  method_character some m =
      rw (
        ne_eqb c 46 n.0,
        ne_eqb c 59 n.1,
        ne_eqb c 91 n.2,
        ne_eqb c 47 n.3,
        ne_eqb c 0 n.4,
        ne_eqb c 60 m.0,
        ne_eqb c 62 m.1,
      )
      refl

abbrev IsMethodCharacter : ℕ → Type 0
IsMethodCharacter b = (b ≢ 60) × (b ≢ 62)

-- the first character of a method name
method_goes : (some : Bool) (c : ℕ) (cs : List ℕ) → All IsNameByte (c ∷ cs) → All IsMethodCharacter (c ∷ cs)
    → run (InMethod some) (c ∷ cs) ≡ run (InMethod true) cs
method_goes some c cs all others =
    goes (InMethod some) (InMethod true) c cs
    (method_character c (All-head IsNameByte c cs all) some (All-head IsMethodCharacter c cs others))

-- the characters of a method name
method_leads : (name : List ℕ) → All IsNameByte name → All IsMethodCharacter name
    → run (InMethod true) name ≡ Some (InMethod true)
method_leads [] all others = refl
method_leads (c ∷ cs) all others =
    method_goes true c cs all others
    ∙ method_leads cs (All-tail IsNameByte c cs all) (All-tail IsMethodCharacter c cs others)

method_name_leads : (name : List ℕ) → IsMethodName name → run (InMethod false) name ≡ Some (InMethod true)
method_name_leads [] h = absurd (omega (arith, h.0.0))
method_name_leads (c ∷ cs) h =
    method_goes false c cs h.0.1 h.1
    ∙ method_leads cs (All-tail IsNameByte c cs h.0.1) (All-tail IsMethodCharacter c cs h.1)

-- the parts of a class name, in a name alone and in a field type
module _ (at : Bool → Progress) (character : (some : Bool) (c : ℕ) → IsNameByte c → step (at some) c ≡ Some (at true))
    (slash : step (at true) 47 ≡ Some (at false)) where
  character_leads : (some : Bool) (c : ℕ) (cs rest : List ℕ) → All IsNameByte (c ∷ cs)
      → run (at some) (c ∷ cs ++ rest) ≡ run (at true) (cs ++ rest)
  character_leads some c cs rest all =
      goes (at some) (at true) c (cs ++ rest) (character some c (All-head IsNameByte c cs all))

  characters_lead : (cs rest : List ℕ) → All IsNameByte cs → run (at true) (cs ++ rest) ≡ run (at true) rest
  characters_lead [] rest all = refl
  characters_lead (c ∷ cs) rest all =
      character_leads true c cs rest all ∙ characters_lead cs rest (All-tail IsNameByte c cs all)

  part_leads : (some : Bool) (part rest : List ℕ) → IsUnqualifiedName part
      → run (at some) (part ++ rest) ≡ run (at true) rest
  part_leads some [] rest h = absurd (omega (arith, h.0))
  part_leads some (c ∷ cs) rest h =
      character_leads some c cs rest h.1 ∙ characters_lead cs rest (All-tail IsNameByte c cs h.1)

  parts_lead : (some : Bool) (parts : List (List ℕ)) (rest : List ℕ) → 0 < length parts → All IsUnqualifiedName parts
      → run (at some) (join_with_byte 47 parts ++ rest) ≡ run (at true) rest
  parts_lead some [] rest h all = absurd (omega arith)
  parts_lead some (x ∷ []) rest h all = part_leads some x rest (All-head IsUnqualifiedName x [] all)
  parts_lead some (x ∷ y ∷ xs) rest h all =
      ap (λ (t : List ℕ). run (at some) t) (append_assoc x (47 ∷ join_with_byte 47 (y ∷ xs)) rest)
      ∙ part_leads some x (47 ∷ join_with_byte 47 (y ∷ xs) ++ rest) (All-head IsUnqualifiedName x (y ∷ xs) all)
      ∙ goes (at true) (at false) 47 (join_with_byte 47 (y ∷ xs) ++ rest) slash
      ∙ parts_lead false (y ∷ xs) rest (omega arith) (All-tail IsUnqualifiedName x (y ∷ xs) all)

  class_name_leads : (name rest : List ℕ) → IsClassName name → run (at false) (name ++ rest) ≡ run (at true) rest
  class_name_leads name rest h = ap (λ (t : List ℕ). run (at false) (t ++ rest)) h.3 ∙ parts_lead false h.0 rest h.1 h.2

in_class_character : (some : Bool) (c : ℕ) → IsNameByte c → step (InClass some) c ≡ Some (InClass true)
in_class_character some c n = rw (class_character c n some) refl

named_character : (parameter some : Bool) (c : ℕ) → IsNameByte c
    → step (Named parameter some) c ≡ Some (Named parameter true)
named_character parameter some c n =
    let ended : Option Progress = if some then Some (after_type parameter) else None in
    ap (λ (ends : Bool). if ends then ended else named parameter (class_step some c)) (ne_eqb c 59 n.1)
    ∙ ap (named parameter) (class_character c n some)

-- ---- field types

named_leads : (parameter : Bool) (name rest : List ℕ) → IsClassName name
    → run (Named parameter false) (name ++ 59 ∷ rest) ≡ run (after_type parameter) rest
named_leads parameter name rest h =
    class_name_leads (λ (some : Bool). Named parameter some) (named_character parameter) refl name (59 ∷ rest) h

letter_no_bracket : (b : ℕ) → IsTrue (is_base_letter b) → b ≡ 91 → ⊥
letter_no_bracket b h e = false≢true (subst (λ (l : ℕ). is_base_letter l ≡ true) e h)

-- a field type among the parameters, and one that is the last
module _ (parameter : Bool) (at : ℕ → Progress) (more : (d : ℕ) → step (at d) 91 ≡ bracket d (at (suc d)))
    (letter : (d b : ℕ) → IsTrue (is_base_letter b) → step (at d) b ≡ Some (after_type parameter))
    (class : (d : ℕ) → step (at d) 76 ≡ Some (Named parameter false)) where
  element_leads : (d : ℕ) (t : ElementType) (rest : List ℕ) → IsElementType t
      → run (at d) (element_text t ++ rest) ≡ run (after_type parameter) rest
  element_leads d (base b) rest h = goes (at d) (after_type parameter) b rest (letter d b h)
  element_leads d (object name) rest h =
      goes (at d) (Named parameter false) 76 ((name ++ 59 ∷ []) ++ rest) (class d)
      ∙ ap (λ (t : List ℕ). run (Named parameter false) t) (append_assoc name (59 ∷ []) rest)
      ∙ named_leads parameter name rest h

  bracket_leads : (d : ℕ) → d < 255 → step (at d) 91 ≡ Some (at (suc d))
  bracket_leads d lt = more d ∙ ap (λ (full : Bool). if full then None else Some (at (suc d))) (lt-leb 255 d lt)

  brackets_lead : (n d : ℕ) (t : ElementType) (rest : List ℕ) → d + n ≤ 255 → IsElementType t
      → run (at d) (replicate n 91 ++ (element_text t ++ rest)) ≡ run (after_type parameter) rest
  brackets_lead zero d t rest le h = element_leads d t rest h
  brackets_lead (suc n) d t rest le h =
      goes (at d) (at (suc d)) 91 (replicate n 91 ++ (element_text t ++ rest)) (bracket_leads d (omega arith))
      ∙ brackets_lead n (suc d) t rest (omega arith) h

  field_leads : (t : FieldType) (rest : List ℕ) → IsFieldType t
      → run (at 0) (field_text t ++ rest) ≡ run (after_type parameter) rest
  field_leads t rest h =
      ap (λ (s : List ℕ). run (at 0) s) (append_assoc (replicate t.dimensions 91) (element_text t.element) rest)
      ∙ brackets_lead t.dimensions 0 t.element rest (omega (arith, h.0)) h.1

parameter_letter : (d b : ℕ) → IsTrue (is_base_letter b) → step (Parameters d) b ≡ Some (Parameters 0)
parameter_letter d b h =
    elim (eqb_tells b 91) [
      | inl t ↦ absurd (letter_no_bracket b h t.1)
      | inr t ↦ rw (t.0, h) refl
    ]

last_letter : (last : Bool) (d b : ℕ) → IsTrue (is_base_letter b) → step (Field d last) b ≡ Some End
last_letter last d b h =
    elim (eqb_tells b 91) [
      | inl t ↦ absurd (letter_no_bracket b h t.1)
      | inr t ↦ rw (t.0, h) refl
    ]

last_leads : (last : Bool) (t : FieldType) → IsFieldType t → run (Field 0 last) (field_text t) ≡ Some End
last_leads last t h =
    ap (λ (s : List ℕ). run (Field 0 last) s) (sym (append-nil (field_text t)))
    ∙ field_leads false (λ d. Field d last) (λ d. refl) (last_letter last) (λ d. refl) t [] h

-- ---- methods

parameters_lead : (ts : List FieldType) (rest : List ℕ) → All IsFieldType ts
    → run (Parameters 0) (flat_map field_text ts ++ rest) ≡ run (Parameters 0) rest
parameters_lead [] rest all = refl
parameters_lead (t ∷ ts) rest all =
    let behind : List ℕ = flat_map field_text ts ++ rest in
    let first = All-head IsFieldType t ts all in
    ap (λ (s : List ℕ). run (Parameters 0) s) (append_assoc (field_text t) (flat_map field_text ts) rest)
    ∙ field_leads true (λ d. Parameters d) (λ d. refl) parameter_letter (λ d. refl) t behind first
    ∙ parameters_lead ts rest (All-tail IsFieldType t ts all)

result_leads : (r : Option FieldType) → IfSome r IsFieldType → run (Field 0 true) (result_text r) ≡ Some End
result_leads None h = refl
result_leads (Some t) h = last_leads true t h

method_descriptor_leads : (m : MethodType) → IsMethodType m → run Open (method_text m) ≡ Some End
method_descriptor_leads m h =
    let split = append_assoc (flat_map field_text m.parameters) (41 ∷ []) (result_text m.result) in
    ap (λ (s : List ℕ). run (Parameters 0) s) split
    ∙ parameters_lead m.parameters (41 ∷ result_text m.result) h.0 ∙ result_leads m.result h.1

-- ---- forms

pub form_leads : (form : Form) (text : List ℕ) → IsOfForm form text
    → (p : Progress) × (run (start_of form) text ≡ Some p) × (is_whole p ≡ true)
form_leads ClassName text h =
    let led = class_name_leads (λ some. InClass some) in_class_character refl text [] h in
    (InClass true, ap (λ (t : List ℕ). run (InClass false) t) (sym (append-nil text)) ∙ led, refl)
form_leads MethodName text h = (InMethod true, method_name_leads text h, refl)
form_leads MethodDescriptor text h = (End, ap (λ (t : List ℕ). run Open t) h.2 ∙ method_descriptor_leads h.0 h.1, refl)
form_leads FieldDescriptor text h =
    (End, ap (λ (t : List ℕ). run (Field 0 false) t) h.2 ∙ last_leads false h.0 h.1, refl)
