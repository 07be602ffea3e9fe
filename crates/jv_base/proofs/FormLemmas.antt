-- The steps of the forms lead along the texts of the forms, and no further.
use Rattle.std.proofs.Common.{◌≡◌, ◌≢◌, ℕ, suc, ◌<◌, ◌≤◌, Bool, true, false, eqb, List, [], ◌∷◌, ◌++◌, length, get_or}
use Rattle.std.proofs.Common.{take, drop, ◌+◌, subst, Option, Some, None, refl, sym, ap, ◌∙◌, arith, inl, inr, IsTrue}
use Rattle.std.proofs.lemmas.Bool.{ne_eqb, false≢true, cases_lt}
use Rattle.std.proofs.lemmas.List.{take_more, take-append-drop}
use Rattle.std.proofs.lemmas.Str.{encode_ascii}
use Rattle.std.specs.Char.{IsScalar}
use Rattle.std.specs.Str.{IsUtf8}
use Rattle.std.specs.Prelude.{encode_utf8, if◌then◌else◌}
use Rattle.jv_base.specs.declared.form.Form.{Form}
use Rattle.jv_base.specs.declared.form.Progress.{Progress}
use Rattle.jv_base.specs.declared.form.Progress.TheVariants.{InClass, InMethod, Open, Parameters, Field, Named, End}
use Rattle.jv_base.specs.Descriptor.{is_base_letter}
use Rattle.jv_base.specs.Forms.{IsOfForm}
use Rattle.jv_base.specs.Calls.Progress.{class_step, method_step, named_step, in_class, in_method, named, start_of}
use Rattle.jv_base.specs.Calls.Progress.{step, run}
use Rattle.jv_base.specs.Calls.Progress.{run_from, takes_names, is_whole}
use Rattle.jv_base.specs.Spelling.{is_plain}
use Rattle.jv_base.proofs.FormEndLemmas.{form_ends, whole_form}
use Rattle.jv_base.proofs.FormLeadLemmas.{form_leads}
use Rattle.jv_list.proofs.TextLemmas.{some_bytes, bytes_high}

pub run-nil : (p : Progress) → run p [] ≡ Some p
run-nil p = refl

pub run-none : (cs : List ℕ) → run_from None cs ≡ None
run-none cs = refl

none_append : (xs ys : List ℕ) → run_from None (xs ++ ys) ≡ run_from (run_from None xs) ys
none_append xs ys = refl

-- a run over two lists
pub run-append : (p : Option Progress) (xs ys : List ℕ) → run_from p (xs ++ ys) ≡ run_from (run_from p xs) ys
run-append None xs ys = none_append xs ys
run-append (Some p) [] ys = refl
run-append (Some p) (x ∷ xs) ys = run-append (step p x) xs ys

-- a text of a form leads somewhere
pub leads : (form : Form) (text : List ℕ) → IsOfForm form text → (p : Progress) × (run (start_of form) text ≡ Some p)
leads form text h = let found = form_leads form text h in (found.0, found.1)

-- what leads somewhere begins a text of the form
pub can_end : (form : Form) (text : List ℕ) (p : Progress) → run (start_of form) text ≡ Some p
    → (rest : List ℕ) × IsUtf8 rest × IsOfForm form (text ++ rest)
can_end = form_ends

-- ---- characters that are escaped

other_than : (d c : ℕ) → is_plain d ≡ true → is_plain c ≡ false → c ≢ d
other_than d c p e same = false≢true (sym e ∙ ap is_plain same ∙ p)

module _ (c : ℕ) (e : is_plain c ≡ false) where
  differs : (d : ℕ) → is_plain d ≡ true → eqb c d ≡ false
  differs d p = ne_eqb c d (other_than d c p e)

  letter : (d : ℕ) → is_plain d ≡ true → eqb d c ≡ false
  letter d p = ne_eqb d c (λ same. other_than d c p e (sym same))

  no_letter : is_base_letter c ≡ false
  no_letter =
      rw (
        letter 66 refl,
        letter 67 refl,
        letter 68 refl,
        letter 70 refl,
        letter 73 refl,
        letter 74 refl,
        letter 83 refl,
        letter 90 refl,
      ) refl

  class_goes_on : (some : Bool) → (c ≡ 0 → ⊥) → class_step some c ≡ Some true
  class_goes_on some nonzero =
      rw (differs 47 refl, differs 46 refl, differs 59 refl, differs 91 refl, ne_eqb c 0 nonzero) refl

  method_goes_on : (c ≡ 0 → ⊥) → method_step c ≡ Some true
  method_goes_on nonzero =
      rw (
        differs 47 refl,
        differs 46 refl,
        differs 59 refl,
        differs 91 refl,
        ne_eqb c 0 nonzero,
        differs 60 refl,
        differs 62 refl,
      ) refl

named_goes_on : (parameter some : Bool) (c : ℕ) → class_step some c ≡ Some true → eqb c 59 ≡ false
    → named_step parameter some c ≡ Some (Named parameter true)
named_goes_on parameter some c e other =
    passed (eqb c 59) _ (named parameter (class_step some c)) other ∙ ap (named parameter) e
  where
    passed : (b : Bool) (x y : Option Progress) → b ≡ false → (if b then x else y) ≡ y
    passed b x y e = rw e refl

-- ---- characters that are not ASCII, and their bytes, are in names alone

run_one : (p : Progress) (c : ℕ) → run p (c ∷ []) ≡ step p c
run_one p c = from_step (step p c)
  where
    from_step : (q : Option Progress) → run_from q [] ≡ q
    from_step None = refl
    from_step (Some q) = refl

abbrev high_step : Progress → Option Progress
high_step (InClass some) = Some (InClass true)
high_step (InMethod some) = Some (InMethod true)
high_step Open = None
high_step (Parameters d) = None
high_step (Field d last) = None
high_step (Named parameter some) = Some (Named parameter true)
high_step End = None

module _ (c : ℕ) (big : 128 ≤ c) where
  beyond : (d : ℕ) → d < 128 → eqb c d ≡ false
  beyond d small = ne_eqb c d (λ e. omega (arith, e))

  before_all : (d : ℕ) → d < 128 → eqb d c ≡ false
  before_all d small = ne_eqb d c (λ e. omega (arith, e))

  class_high : (some : Bool) → class_step some c ≡ Some true
  class_high some =
      rw (
        beyond 47 (omega arith),
        beyond 46 (omega arith),
        beyond 59 (omega arith),
        beyond 91 (omega arith),
        beyond 0 (omega arith),
      ) refl

  method_high : method_step c ≡ Some true
  method_high =
      rw (
        beyond 47 (omega arith),
        beyond 46 (omega arith),
        beyond 59 (omega arith),
        beyond 91 (omega arith),
        beyond 0 (omega arith),
        beyond 60 (omega arith),
        beyond 62 (omega arith),
      ) refl

  no_letter_high : is_base_letter c ≡ false
  no_letter_high =
      rw (
        before_all 66 (omega arith),
        before_all 67 (omega arith),
        before_all 68 (omega arith),
        before_all 70 (omega arith),
        before_all 73 (omega arith),
        before_all 74 (omega arith),
        before_all 83 (omega arith),
        before_all 90 (omega arith),
      ) refl

  step_high : (p : Progress) → step p c ≡ high_step p
  step_high (InClass some) = ap in_class (class_high some)
  step_high (InMethod some) = ap in_method method_high
  step_high (Named parameter some) = named_goes_on parameter some c (class_high some) (beyond 59 (omega arith))
  step_high Open = rw (beyond 40 (omega arith)) refl
  step_high (Parameters d) =
      rw (beyond 91 (omega arith), no_letter_high, beyond 76 (omega arith), beyond 41 (omega arith)) refl
  step_high (Field d last) =
      rw (beyond 91 (omega arith), no_letter_high, beyond 76 (omega arith), beyond 86 (omega arith)) refl
  step_high End = refl

stays : (p : Progress) (cs : List ℕ) → high_step p ≡ Some p → ((k : ℕ) → k < length cs → 128 ≤ get_or cs k 0)
    → run p cs ≡ Some p
stays p [] e high = refl
stays p (c ∷ cs) e high =
    let one : step p c ≡ Some p = step_high c (high 0 (omega arith)) p ∙ e in
    ap (λ (q : Option Progress). run_from q cs) one ∙ stays p cs e (λ k below. high (suc k) (omega arith))

high_again : (p : Progress) (cs : List ℕ) → ((k : ℕ) → k < length cs → 128 ≤ get_or cs k 0)
    → run_from (high_step p) cs ≡ high_step p
high_again (InClass some) cs high = stays (InClass true) cs refl high
high_again (InMethod some) cs high = stays (InMethod true) cs refl high
high_again (Named parameter some) cs high = stays (Named parameter true) cs refl high
high_again Open cs high = refl
high_again (Parameters d) cs high = refl
high_again (Field d last) cs high = refl
high_again End cs high = refl

run_high : (p : Progress) (cs : List ℕ) → 0 < length cs → ((k : ℕ) → k < length cs → 128 ≤ get_or cs k 0)
    → run p cs ≡ high_step p
run_high p [] some high = absurd (omega arith)
run_high p (c ∷ cs) some high =
    ap (λ (q : Option Progress). run_from q cs) (step_high c (high 0 (omega arith)) p)
    ∙ high_again p cs (λ k below. high (suc k) (omega arith))

-- the bytes of a character lead where the character does
pub step_bytes : (p : Progress) (c : ℕ) → IsScalar c → run p (encode_utf8 c) ≡ step p c
step_bytes p c scalar =
    elim (cases_lt c 128) [
      | inl small ↦ rw (encode_ascii c small) (run_one p c)
      | inr big ↦ run_high p (encode_utf8 c) (some_bytes c) (bytes_high c big) ∙ sym (step_high c big p)
    ]

-- one more character
pub run-character : (form : Form) (text : List ℕ) (p : Progress) (c : ℕ) → run (start_of form) text ≡ Some p
    → IsScalar c
    → run (start_of form) (text ++ encode_utf8 c) ≡ step p c
run-character form text p c e scalar =
    run-append (Some (start_of form)) text (encode_utf8 c) ∙ ap (λ (o : Option Progress). run_from o (encode_utf8 c)) e
    ∙ step_bytes p c scalar

-- where a name goes on, it does by each character that is escaped in its text, but 0
pub takes_escaped : (p : Progress) (c : ℕ) → takes_names p ≡ true → is_plain c ≡ false → (c ≡ 0 → ⊥)
    → (q : Progress) × (step p c ≡ Some q)
takes_escaped (InClass some) c t e nonzero = (InClass true, ap in_class (class_goes_on c e some nonzero))
takes_escaped (InMethod some) c t e nonzero = (InMethod true, ap in_method (method_goes_on c e nonzero))
takes_escaped (Named parameter some) c t e nonzero = (
  Named parameter true,
  named_goes_on parameter some c (class_goes_on c e some nonzero)
      (ne_eqb c 59 (other_than 59 c refl e)),
)
takes_escaped Open c t e nonzero = absurd (false≢true t)
takes_escaped (Parameters d) c t e nonzero = absurd (false≢true t)
takes_escaped (Field d last) c t e nonzero = absurd (false≢true t)
takes_escaped End c t e nonzero = absurd (false≢true t)

-- elsewhere none that is escaped comes
pub takes_plain : (p : Progress) (c : ℕ) → takes_names p ≡ false → is_plain c ≡ false → step p c ≡ None
takes_plain (InClass some) c t e = absurd (false≢true (sym t))
takes_plain (InMethod some) c t e = absurd (false≢true (sym t))
takes_plain (Named parameter some) c t e = absurd (false≢true (sym t))
takes_plain Open c t e = rw (differs c e 40 refl) refl
takes_plain (Parameters d) c t e =
    rw (differs c e 91 refl, no_letter c e, differs c e 76 refl, differs c e 41 refl) refl
takes_plain (Field d last) c t e =
    rw (differs c e 91 refl, no_letter c e, differs c e 76 refl, differs c e 86 refl) refl
takes_plain End c t e = refl

pub takes_no_zero : (p : Progress) → step p 0 ≡ None
takes_no_zero (InClass some) = refl
takes_no_zero (InMethod some) = refl
takes_no_zero (Named parameter some) = refl
takes_no_zero Open = refl
takes_no_zero (Parameters d) = refl
takes_no_zero (Field d last) = refl
takes_no_zero End = refl

-- ---- whole texts

one_progress : (p q : Progress) → Some p ≡ Some q → p ≡ q
one_progress p q e = cc

-- the text of a form is told by where it leads
pub whole_tells : (form : Form) (text : List ℕ) (p : Progress) → run (start_of form) text ≡ Some p
    → (IsTrue (is_whole p) → IsOfForm form text) × (IsOfForm form text → IsTrue (is_whole p))
whole_tells form text p e = (
  λ whole. whole_form form text p e whole,
  λ h. let found = form_leads form text h in ap is_whole (one_progress p found.0 (sym e ∙ found.1)) ∙ found.2,
)

-- what leads nowhere is no text of a form, nor the front of one
pub nowhere : (form : Form) (text rest : List ℕ) → run (start_of form) text ≡ None → IsOfForm form (text ++ rest) → ⊥
nowhere form text rest e h =
    let found = form_leads form (text ++ rest) h in
    let gone : run (start_of form) (text ++ rest) ≡ None =
    run-append (Some (start_of form)) text rest ∙ ap (λ (o : Option Progress). run_from o rest) e in
    none_some found.0 (sym gone ∙ found.1)
  where
    none_some : (p : Progress) → None ≡ Some p → ⊥
    none_some p e = absurd cc

-- one more byte of a text
pub run_one_more : (form : Form) (text : List ℕ) (i : ℕ) (p : Progress) → i < length text
    → run (start_of form) (take i text) ≡ Some p → run (start_of form) (take (i + 1) text) ≡ step p (get_or text i 0)
run_one_more form text i p lt e =
    let b : ℕ = get_or text i 0 in
    ap (λ (t : List ℕ). run (start_of form) t) (take_more text i 0 lt)
    ∙ run-append (Some (start_of form)) (take i text) (b ∷ [])
    ∙ ap (λ (o : Option Progress). run_from o (b ∷ [])) e ∙ run_one p b

pub stuck_form : (form : Form) (text : List ℕ) (i : ℕ) (p : Progress) → i < length text
    → run (start_of form) (take i text) ≡ Some p → step p (get_or text i 0) ≡ None → IsOfForm form text → ⊥
stuck_form form text i p lt e stuck h =
    nowhere form (take (i + 1) text) (drop (i + 1) text) (run_one_more form text i p lt e ∙ stuck)
    (subst (IsOfForm form) (sym (take-append-drop (i + 1) text)) h)
