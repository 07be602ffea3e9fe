-- What leads somewhere begins a text of its form: what may follow, from the end of a text to its start.
use Rattle.std.proofs.Common.{◌≡◌, ℕ, suc, ◌<◌, ◌≤◌, Bool, true, false, ◌==◌, ◌&&◌, List}
use Rattle.std.proofs.Common.{[], ◌∷◌, ◌++◌, replicate, Option, Some, None, refl, sym, ap, subst, ◌∙◌}
use Rattle.std.proofs.Common.{append_assoc, append-nil, arith, nat_le, nat_lt, IsUtf8, codes, if◌then◌else◌}
use Rattle.std.specs.List.{list_all}
use Rattle.std.specs.Prelude.{IfSome}
use Rattle.std.proofs.lemmas.Bool.{cond_both, false≢true, leb-false, eqb-true, and_parts}
use Rattle.std.proofs.lemmas.List.Elements.{All-nil, All-cons}
use Rattle.std.proofs.lemmas.Str.{IsUtf8-nil}
use Rattle.jv_base.specs.declared.form.Form.{Form}
use Rattle.jv_base.specs.declared.form.Form.TheVariants.{ClassName, MethodName, MethodDescriptor, FieldDescriptor}
use Rattle.jv_base.specs.declared.form.Progress.{Progress}
use Rattle.jv_base.specs.declared.form.Progress.TheVariants.{InClass, InMethod, Open, Parameters, Field, Named, End}
use Rattle.jv_base.specs.Names.{IsNameByte}
use Rattle.jv_base.specs.Descriptor.{ElementType, base, object, FieldType, is_base_letter, IsElementType}
use Rattle.jv_base.specs.Descriptor.{IsFieldType, IsMethodDescriptor, element_text}
use Rattle.jv_base.specs.Descriptor.{field_text}
use Rattle.jv_base.specs.Forms.{IsOfForm}
use Rattle.jv_base.specs.Calls.Progress.{class_step, named}
use Rattle.jv_base.specs.Calls.Progress.{after_type, bracket, parameters_step, field_step, named_step, step, run}
use Rattle.jv_base.specs.Calls.Progress.{run_from, start_of, is_whole}
use Rattle.jv_base.proofs.DescriptorLemmas.{IsResultText}
use Rattle.jv_base.proofs.RestLemmas.{ClassRest, IsMethodCharacter, MethodRest, ParametersText, LastText, TypeRest}
use Rattle.jv_base.proofs.RestLemmas.{Rest, class_before, method_before, in_class_before, class_ended}
use Rattle.jv_list.proofs.CutLemmas.{run_more}
use Rattle.jv_list.proofs.TextLemmas.{IsUtf8-from_test}

-- ---- field types

parameter_before : (t : FieldType) (rest : List ℕ) → IsFieldType t → ParametersText rest
    → ParametersText (field_text t ++ rest)
parameter_before t rest h k = (
  record { parameters = t ∷ k.0.parameters; result = k.0.result },
  (All-cons IsFieldType t k.0.parameters h k.1.0, k.1.1),
  ap (λ (s : List ℕ). field_text t ++ s) k.2 ∙ simp append_assoc,
)

last_is : (last : Bool) (t : FieldType) → IsFieldType t → LastText last (field_text t)
last_is true t h = (Some t, h, refl)
last_is false t h = (t, h, refl)

last_before : (last : Bool) (t : FieldType) (rest : List ℕ) → IsFieldType t → rest ≡ []
    → LastText last (field_text t ++ rest)
last_before last t rest h e =
    let whole = sym (append-nil (field_text t)) ∙ ap (λ (s : List ℕ). field_text t ++ s) (sym e) in
    subst (λ (s : List ℕ). LastText last s) whole (last_is last t h)

-- a field type of some dimensions, whose element comes next
module _ (parameter : Bool) (Whole : List ℕ → Type 0)
    (type_before : (t : FieldType) (after : List ℕ) → IsFieldType t → TypeRest parameter after
    → Whole (field_text t ++ after))
    (d : ℕ) (rest : List ℕ) (le : d ≤ 255) where
  element_before : (t : ElementType) (after : List ℕ) → IsElementType t → TypeRest parameter after
      → Whole (replicate d 91 ++ (element_text t ++ after))
  element_before t after h k =
      subst Whole (append_assoc (replicate d 91) (element_text t) after)
      (type_before (record { dimensions = d; element = t }) after (le, h) k)

  letter_before : (b : ℕ) → is_base_letter b ≡ true → TypeRest parameter rest → Whole (replicate d 91 ++ b ∷ rest)
  letter_before b letter k = element_before (base b) rest letter k

  object_before : (c : ℕ) → (c == 76) ≡ true → Rest (Named parameter false) rest → Whole (replicate d 91 ++ c ∷ rest)
  object_before c e h =
      let is : 76 ≡ c = sym (eqb-true c 76 e) in
      let spelled : (h.0 ++ 59 ∷ []) ++ h.1 ≡ rest = append_assoc h.0 (59 ∷ []) h.1 ∙ sym h.4 in
      let whole = element_before (object h.0) h.1 h.2 h.3 in
      subst (λ (k : ℕ). Whole (replicate d 91 ++ k ∷ rest)) is
      (subst (λ (s : List ℕ). Whole (replicate d 91 ++ 76 ∷ s)) spelled whole)

bracket_before : (d : ℕ) (next : Progress) (rest : List ℕ) (Whole : Type 0) → (d < 255 → Rest next rest → Whole)
    → IfSome (bracket d next) (λ p. Rest p rest → Whole)
bracket_before d next rest Whole h =
    cond_both (nat_le 255 d) None (Some next) (λ o. IfSome o (λ p. Rest p rest → Whole)) (λ e. tt)
    (λ e. h (leb-false 255 d e))

brackets_then : (d c : ℕ) (rest : List ℕ) → (c == 91) ≡ true → replicate (suc d) 91 ++ rest ≡ replicate d 91 ++ c ∷ rest
brackets_then d c rest e = run_more 91 d rest ∙ ap (λ (k : ℕ). replicate d 91 ++ k ∷ rest) (sym (eqb-true c 91 e))

parameters_before : (d c : ℕ) (rest : List ℕ)
    → IfSome (parameters_step d c) (λ p. Rest p rest → Rest (Parameters d) (c ∷ rest))
parameters_before d c rest =
    let P : Progress → Type 0 = λ p. Rest p rest → Rest (Parameters d) (c ∷ rest) in
    cond_both (c == 91) _ _ (λ o. IfSome o P)
    (λ e. bracket_before d (Parameters (suc d)) rest (Rest (Parameters d) (c ∷ rest))
    (λ lt h le. subst ParametersText (brackets_then d c rest e) (h (omega arith))))
    (λ n. cond_both (is_base_letter c) _ _ (λ o. IfSome o P)
    (λ e h le. letter_before true ParametersText parameter_before d rest le c e (h (omega arith)))
    (λ m. cond_both (c == 76) _ _ (λ o. IfSome o P)
    (λ e h le. object_before true ParametersText parameter_before d rest le c e h)
    (λ o. cond_both (c == 41 && d == 0) _ _ (λ o. IfSome o P) (λ e h le. closed_before e (h (omega arith))) (λ f. tt))))
  where
    closed_before : (c == 41 && d == 0) ≡ true → IsResultText rest → ParametersText (replicate d 91 ++ c ∷ rest)
    closed_before e h =
        let parts = and_parts (c == 41) (d == 0) e in
        let none = ap (λ (n : ℕ). replicate n 91 ++ c ∷ rest) (eqb-true d 0 parts.1) in
        let close = ap (λ (k : ℕ). k ∷ rest) (eqb-true c 41 parts.0) in (
          record { parameters = []; result = h.0 },
          (All-nil IsFieldType, h.1),
          none ∙ close ∙ ap (λ (s : List ℕ). 41 ∷ s) h.2,
        )

field_before : (d : ℕ) (last : Bool) (c : ℕ) (rest : List ℕ)
    → IfSome (field_step d last c) (λ p. Rest p rest → Rest (Field d last) (c ∷ rest))
field_before d last c rest =
    let P : Progress → Type 0 = λ p. Rest p rest → Rest (Field d last) (c ∷ rest) in
    cond_both (c == 91) _ _ (λ o. IfSome o P)
    (λ e. bracket_before d (Field (suc d) last) rest (Rest (Field d last) (c ∷ rest))
    (λ lt h le. subst (LastText last) (brackets_then d c rest e) (h (omega arith))))
    (λ n. cond_both (is_base_letter c) _ _ (λ o. IfSome o P)
    (λ e h le. letter_before false (LastText last) (last_before last) d rest le c e h)
    (λ m. cond_both (c == 76) _ _ (λ o. IfSome o P)
    (λ e h le. object_before false (LastText last) (last_before last) d rest le c e h)
    (λ o. cond_both (c == 86 && last && d == 0) _ _ (λ o. IfSome o P)
    (λ e h le.
    let parts = and_parts (c == 86 && last) (d == 0) e in
    let void = and_parts (c == 86) last parts.0 in
    void_before last void.1 (eqb-true c 86 void.0) (eqb-true d 0 parts.1) h)
    (λ f. tt))))
  where
    void_before : (last : Bool) → last ≡ true → c ≡ 86 → d ≡ 0 → rest ≡ [] → LastText last (replicate d 91 ++ c ∷ rest)
    void_before true is letter none h =
        let spelled = ap (λ (k : ℕ). k ∷ rest) letter ∙ ap (λ (s : List ℕ). 86 ∷ s) h in
        (None, tt, ap (λ (n : ℕ). replicate n 91 ++ c ∷ rest) none ∙ spelled)
    void_before false is letter none h = absurd (false≢true is)

type_rest : (parameter : Bool) (rest : List ℕ) → Rest (after_type parameter) rest → TypeRest parameter rest
type_rest true rest h = h (omega arith)
type_rest false rest h = h

semicolon_before : (parameter some : Bool) (c : ℕ) (rest : List ℕ) → c ≡ 59
    → IfSome (if some then Some (after_type parameter) else None)
    (λ p. Rest p rest → Rest (Named parameter some) (c ∷ rest))
semicolon_before parameter true c rest e =
    λ h. ([], rest, class_ended, type_rest parameter rest h, ap (λ (k : ℕ). k ∷ rest) e)
semicolon_before parameter false c rest e = tt

name_before : (parameter some : Bool) (class : Option Bool) (c : ℕ) (rest : List ℕ)
    → ((name : List ℕ) → IfSome class (λ s. ClassRest s name → ClassRest some (c ∷ name)))
    → IfSome (named parameter class) (λ p. Rest p rest → Rest (Named parameter some) (c ∷ rest))
name_before parameter some None c rest f = tt
name_before parameter some (Some s) c rest f =
    λ h. (c ∷ h.0, h.1, f h.0 h.2, h.3, ap (λ (t : List ℕ). c ∷ t) h.4)

named_before : (parameter some : Bool) (c : ℕ) (rest : List ℕ)
    → IfSome (named_step parameter some c) (λ p. Rest p rest → Rest (Named parameter some) (c ∷ rest))
named_before parameter some c rest =
    cond_both (c == 59) _ _ (λ o. IfSome o (λ p. Rest p rest → Rest (Named parameter some) (c ∷ rest)))
    (λ e. semicolon_before parameter some c rest (eqb-true c 59 e))
    (λ n. name_before parameter some (class_step some c) c rest (class_before some c))

-- ---- steps and runs

-- one more character in front
before : (p : Progress) (c : ℕ) (rest : List ℕ) → IfSome (step p c) (λ q. Rest q rest → Rest p (c ∷ rest))
before (InClass some) c rest =
    in_class_before (class_step some c) rest (ClassRest some (c ∷ rest)) (class_before some c rest)
before (InMethod some) c rest = method_before some c rest
before Open c rest =
    cond_both (c == 40) _ _ (λ o. IfSome o (λ p. Rest p rest → IsMethodDescriptor (c ∷ rest))) (λ e h.
    let k = h (omega arith) in
    (k.0, k.1, ap (λ (b : ℕ). b ∷ rest) (eqb-true c 40 e) ∙ ap (λ (t : List ℕ). 40 ∷ t) k.2)) (λ n. tt)
before (Parameters d) c rest = parameters_before d c rest
before (Field d last) c rest = field_before d last c rest
before (Named parameter some) c rest = named_before parameter some c rest
before End c rest = tt

by_step : (next : Option Progress) (q : Progress) (cs rest : List ℕ) (Whole : Type 0) → run_from next cs ≡ Some q
    → IfSome next (λ s. Rest s rest → Whole)
    → ((s : Progress) → run s cs ≡ Some q → Rest s rest) → Whole
by_step None q cs rest Whole e f back = absurd cc
by_step (Some s) q cs rest Whole e f back = f (back s e)

-- what may follow the text may follow it with the text before it where the text starts
back : (p q : Progress) (text rest : List ℕ) → run p text ≡ Some q → Rest q rest → Rest p (text ++ rest)
back p q [] rest e h = let same : p ≡ q = cc in subst (λ (s : Progress). Rest s rest) (sym same) h
back p q (c ∷ cs) rest e h =
    by_step (step p c) q cs (cs ++ rest) (Rest p (c ∷ cs ++ rest)) e (before p c (cs ++ rest))
    (λ s k. back s q cs rest k h)

-- ---- endings

abbrev Ends : Progress → Type 0
Ends p = (rest : List ℕ) × IsUtf8 rest × Rest p rest

method_ended : MethodRest true []
method_ended = (All-nil IsNameByte, All-nil IsMethodCharacter)

-- a text that leads from the progress to the end, or to a name that may end
by_text : (p q : Progress) (text : List ℕ) → list_all (λ b. nat_lt b 128) text ≡ true → run p text ≡ Some q → Rest q []
    → Ends p
by_text p q text small led last =
    (text, IsUtf8-from_test text small, subst (Rest p) (append-nil text) (back p q text [] led last))

ends : (p : Progress) → Ends p
ends (InClass true) = ([], IsUtf8-nil, class_ended)
ends (InClass false) = by_text (InClass false) (InClass true) (codes "a") refl refl class_ended
ends (InMethod true) = ([], IsUtf8-nil, method_ended)
ends (InMethod false) = by_text (InMethod false) (InMethod true) (codes "a") refl refl method_ended
ends Open = by_text Open End (codes "()V") refl refl refl
ends (Parameters d) = by_text (Parameters d) End (codes "I)V") refl refl refl
ends (Field d last) = by_text (Field d last) End (codes "I") refl refl refl
ends (Named true some) = by_text (Named true some) End (codes "a;)V") refl refl refl
ends (Named false some) = by_text (Named false some) End (codes "a;") refl refl refl
ends End = ([], IsUtf8-nil, refl)

start_rest : (form : Form) (text : List ℕ) → Rest (start_of form) text → IsOfForm form text
start_rest ClassName text h = h
start_rest MethodName text h = h
start_rest MethodDescriptor text h = h
start_rest FieldDescriptor text h = h (omega arith)

pub form_ends : (form : Form) (text : List ℕ) (p : Progress) → run (start_of form) text ≡ Some p
    → (rest : List ℕ) × IsUtf8 rest × IsOfForm form (text ++ rest)
form_ends form text p e =
    let end = ends p in
    (end.0, end.1, start_rest form (text ++ end.0) (back (start_of form) p text end.0 e end.2))

-- where nothing has to follow
nothing_follows : (p : Progress) → is_whole p ≡ true → Rest p []
nothing_follows (InClass true) e = class_ended
nothing_follows (InClass false) e = absurd (false≢true e)
nothing_follows (InMethod true) e = method_ended
nothing_follows (InMethod false) e = absurd (false≢true e)
nothing_follows Open e = absurd (false≢true e)
nothing_follows (Parameters d) e = absurd (false≢true e)
nothing_follows (Field d last) e = absurd (false≢true e)
nothing_follows (Named parameter some) e = absurd (false≢true e)
nothing_follows End e = refl

pub whole_form : (form : Form) (text : List ℕ) (p : Progress) → run (start_of form) text ≡ Some p → is_whole p ≡ true
    → IsOfForm form text
whole_form form text p e whole =
    let rest = back (start_of form) p text [] e (nothing_follows p whole) in
    subst (IsOfForm form) (append-nil text) (start_rest form (text ++ []) rest)
