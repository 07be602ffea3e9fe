-- How far a text with escapes is the front of one that spells a name of a form.
use Rattle.std.proofs.Common.{◌≡◌, ℕ, ◌+◌, ◌-◌, ◌<◌, ◌≤◌, true, false, List, [], ◌++◌, length, take, drop, Option}
use Rattle.std.proofs.Common.{Some, None, sym, ap, subst, ◌∙◌, append_assoc, arith, inl, inr}
use Rattle.std.specs.Char.{IsScalar}
use Rattle.std.specs.Prelude.{encode_utf8}
use Rattle.std.specs.Str.{IsUtf8}
use Rattle.std.proofs.Math.Seq.{take-append-add}
use Rattle.std.proofs.lemmas.Bool.{false≢true, cases_lt, cases_Bool}
use Rattle.std.proofs.lemmas.List.{take-append-drop, length-append, append-nil, take_at, length-take-le}
use Rattle.std.proofs.lemmas.Str.{IsUtf8-append, IsUtf8-nil}
use Rattle.jv_base.specs.declared.form.Form.{Form}
use Rattle.jv_base.specs.declared.form.Progress.{Progress}
use Rattle.jv_base.specs.Forms.{IsOfForm, IsSpelled, IsEscape}
use Rattle.jv_base.specs.Calls.Progress.{start_of, step, run, run_from, takes_names}
use Rattle.jv_base.specs.Front.{Begins}
use Rattle.jv_base.specs.Calls.Fronts.{IsLongestFront}
use Rattle.jv_base.specs.Spelling.{is_plain, escape_text, character_text, name_text}
use Rattle.jv_base.proofs.EscapeLemmas.{plain_text, escaped_text}
use Rattle.jv_base.proofs.FormLemmas.{run-append, run-character, run-nil, run-none, leads, can_end, takes_escaped}
use Rattle.jv_base.proofs.FormLemmas.{takes_plain, takes_no_zero}
use Rattle.jv_list.proofs.CutLemmas.{front_of}
use Rattle.jv_list.proofs.TextLemmas.{IsUtf8-more}
use Rattle.jv_base.proofs.NameLemmas.{name_text-nil, name_text-append, name_text-more, name_more}
use Rattle.jv_list.proofs.CutLemmas.{front_of}
use Rattle.jv_list.proofs.TextLemmas.{IsUtf8-more}
use Rattle.jv_base.proofs.NameLemmas.{name_same}

-- the characters of a name lead to the progress, and its text is the first part of a longer one
pub record HasRead (form : Form) (text : List ℕ) (progress : Progress) (rest : List ℕ) : Type 0 where
  pub name : List ℕ
  pub unicode : IsUtf8 name
  pub read : text ≡ name_text name ++ rest
  pub leads : run (start_of form) name ≡ Some progress

-- no character at the front of the rest leads on
abbrev pub IsStuck : Progress → List ℕ → Type 0
IsStuck progress rest =
    (c : ℕ) (after : List ℕ) → IsScalar c → rest ≡ character_text c ++ after → step progress c ≡ None

module _ (form : Form) (text : List ℕ) where
  pub read_none : HasRead form text (start_of form) text
  read_none = record {
    name = [];
    unicode = IsUtf8-nil;
    read = ap (λ (t : List ℕ). t ++ text) (sym name_text-nil);
    leads = run-nil (start_of form);
  }

  pub read_more : (p q : Progress) (rest after : List ℕ) (c : ℕ) → HasRead form text p rest → IsScalar c
      → rest ≡ character_text c ++ after → step p c ≡ Some q → HasRead form text q after
  read_more p q rest after c h scalar e s = record {
    name = h.name ++ encode_utf8 c;
    unicode = IsUtf8-more h.name c h.unicode scalar;
    read = h.read ∙ ap (λ (t : List ℕ). name_text h.name ++ t) e
        ∙ sym (append_assoc (name_text h.name) (character_text c) after)
        ∙ ap (λ (t : List ℕ). t ++ after) (sym (name_text-more h.name c h.unicode scalar));
    leads = run-character form h.name p c h.leads scalar ∙ s;
  }

  pub read_within : (p : Progress) (rest : List ℕ) → HasRead form text p rest → length rest ≤ length text
  read_within p rest h = omega (arith, ap length h.read, length-append (name_text h.name) rest)

-- ---- what begins a text

escaped : (c : ℕ) → is_plain c ≡ false → character_text c ≡ escape_text c
escaped c other = sym (append-nil (character_text c)) ∙ escaped_text c [] other ∙ append-nil (escape_text c)

name_begins : (form : Form) (name : List ℕ) (p : Progress) → IsUtf8 name → run (start_of form) name ≡ Some p
    → Begins (IsSpelled form) (name_text name)
name_begins form name p u e =
    let end = can_end form name p e in
    let last : List ℕ = end.0 in
    (name_text last, (name ++ last, IsUtf8-append name last u end.1, end.2, sym (name_text-append name last u)))

escape_begins : (form : Form) (name front : List ℕ) (p : Progress) → IsUtf8 name → run (start_of form) name ≡ Some p
    → takes_names p ≡ true → Begins IsEscape front → Begins (IsSpelled form) (name_text name ++ front)
escape_begins form name front p u e t (rest, (d, scalar, other, (nonzero, is))) =
    let on = takes_escaped p d t other nonzero in
    let longer : List ℕ = name ++ encode_utf8 d in
    let leads : run (start_of form) longer ≡ Some on.0 = run-character form name p d e scalar ∙ on.1 in
    let ends = name_begins form longer on.0 (IsUtf8-more name d u scalar) leads in
    let spelled : character_text d ≡ front ++ rest = escaped d other ∙ sym is in
    let begun : List ℕ = name_text name ++ front in
    let split : name_text longer ≡ begun ++ rest =
    name_text-more name d u scalar ∙ ap (λ (t : List ℕ). name_text name ++ t) spelled
    ∙ sym (append_assoc (name_text name) front rest) in
    let text : name_text longer ++ ends.0 ≡ begun ++ (rest ++ ends.0) =
    ap (λ (t : List ℕ). t ++ ends.0) split ∙ append_assoc begun rest ends.0 in
    (rest ++ ends.0, subst (λ (t : List ℕ). IsSpelled form t) text ends.1)

-- ---- and no more

-- a character that a name of the form has behind this one leads on
steps : (form : Form) (name other more : List ℕ) (p : Progress) (d : ℕ) → run (start_of form) name ≡ Some p → IsScalar d
    → IsOfForm form other → other ≡ name ++ (encode_utf8 d ++ more) → step p d ≡ None → ⊥
steps form name other more p d e scalar of same none =
    let whole = leads form other of in
    let start : Option Progress = Some (start_of form) in
    let split : other ≡ (name ++ encode_utf8 d) ++ more = same ∙ sym (append_assoc name (encode_utf8 d) more) in
    let nowhere : run_from start other ≡ None =
    ap (λ (t : List ℕ). run_from start t) split ∙ run-append start (name ++ encode_utf8 d) more
    ∙ ap (λ (o : Option Progress). run_from o more) (run-character form name p d e scalar ∙ none) ∙ run-none more in
    cc (nowhere, whole.1)

-- a character that lies whole in the rest leads nowhere
whole_stuck : (p : Progress) (rest r after : List ℕ) (k d : ℕ) → IsStuck p rest → IsScalar d
    → take k rest ++ r ≡ character_text d ++ after → length (character_text d) ≤ length (take k rest) → step p d ≡ None
whole_stuck p rest r after k d stuck scalar e le =
    let part = front_of (take k rest) r (character_text d) after e le in
    let behind : List ℕ = drop k rest in
    let split : rest ≡ character_text d ++ (part.0 ++ behind) =
    sym (take-append-drop k rest) ∙ ap (λ (t : List ℕ). t ++ behind) part.1
    ∙ append_assoc (character_text d) part.0 behind in
    stuck d (part.0 ++ behind) scalar split

-- one that does not is escaped there
part_escape : (front r after : List ℕ) (d : ℕ) → IsScalar d → is_plain d ≡ false → (d ≡ 0 → ⊥)
    → front ++ r ≡ character_text d ++ after → length front ≤ length (character_text d) → Begins IsEscape front
part_escape front r after d scalar other nonzero e le =
    let last = front_of (character_text d) after front r (sym e) le in
    (last.0, (d, scalar, other, (nonzero, sym last.1 ∙ escaped d other)))

plain_length : (c : ℕ) → is_plain c ≡ true → length (character_text c) ≡ 1
plain_length c p = ap length (sym (append-nil (character_text c)) ∙ plain_text c [] p)

-- a text of which a name is read that no character behind it goes on with
module _ (form : Form) (text : List ℕ) (p : Progress) (rest : List ℕ) (h : HasRead form text p rest)
    (stuck : IsStuck p rest) where
  abbrev IsBegun : List ℕ → Type 0
  IsBegun front = Begins (IsSpelled form) front

  -- what goes on behind the name is part of an escape
  goes_on : (k : ℕ) → 0 < k → k ≤ length rest → IsBegun (name_text h.name ++ take k rest)
      → (takes_names p ≡ true) × Begins IsEscape (take k rest)
  goes_on k some within (r, (n, u, of, e)) =
      let front : List ℕ = take k rest in
      let size : length front ≡ k = length-take-le k rest within in
      let split = sym (append_assoc (name_text h.name) front r) ∙ e in
      let more = name_more h.name n (front ++ r) h.unicode u split (omega (arith, length-append front r)) in
      let d : ℕ = more.0 in
      let leads_on : step p d ≡ None → ⊥ = steps form h.name n more.1 p d h.leads more.3 of more.4 in
      elim (cases_lt (length front) (length (character_text d))) [
        | inl part ↦ elim (cases_Bool (is_plain d)) [
          | inl plain ↦ absurd (omega (arith, plain_length d plain))
          | inr other ↦ elim (cases_Bool (takes_names p)) [
            | inl takes ↦
                let none : step p 0 ≡ None = takes_no_zero p in
                let nonzero : d ≡ 0 → ⊥ = λ z. leads_on (subst (λ (c : ℕ). step p c ≡ None) (sym z) none) in
                (takes, part_escape front r more.2 d more.3 other nonzero more.5 (omega arith))
            | inr not ↦ absurd (leads_on (takes_plain p d not other))
          ]
        ]
        | inr whole ↦ absurd (leads_on (whole_stuck p rest r more.2 k d stuck more.3 more.5 whole))
      ]

  module _ (count : ℕ) (sum : count + length rest ≡ length text) where
    count_is : count ≡ length (name_text h.name)
    count_is = omega (arith, ap length h.read, length-append (name_text h.name) rest)

    front_is : (k : ℕ) → take (count + k) text ≡ name_text h.name ++ take k rest
    front_is k =
        ap (λ (t : List ℕ). take (count + k) t) h.read
        ∙ ap (λ (c : ℕ). take (c + k) (name_text h.name ++ rest)) count_is ∙ take-append-add (name_text h.name) rest k

    name_is : take count text ≡ name_text h.name
    name_is = ap (λ (t : List ℕ). take count t) h.read ∙ take_at (name_text h.name) rest count (sym count_is)

    more_is : (more : ℕ) → count < more → take more text ≡ name_text h.name ++ take (more - count) rest
    more_is more lt = ap (λ (m : ℕ). take m text) (omega arith) ∙ front_is (more - count)

    past : (more : ℕ) → count < more → more ≤ length text → IsBegun (take more text)
        → (takes_names p ≡ true) × Begins IsEscape (take (more - count) rest)
    past more lt le b = goes_on (more - count) (omega arith) (omega arith) (subst IsBegun (more_is more lt) b)

    pub longest_plain : takes_names p ≡ false → IsLongestFront (IsSpelled form) text count
    longest_plain not = record {
      within = omega arith;
      begins = subst IsBegun (sym name_is) (name_begins form h.name p h.unicode h.leads);
      longest = λ more lt le b. false≢true (sym not ∙ (past more lt le b).0);
    }

    pub longest_escape : (k : ℕ) → takes_names p ≡ true → IsLongestFront IsEscape rest k
        → IsLongestFront (IsSpelled form) text (count + k)
    longest_escape k takes e =
        let begun = escape_begins form h.name (take k rest) p h.unicode h.leads takes e.begins in
        record {
          within = omega (arith, e.within);
          begins = subst IsBegun (sym (front_is k)) begun;
          longest = λ more lt le b.
              e.longest (more - count) (omega arith) (omega arith) (past more (omega arith) le b).1;
        }

-- a text spells one name at most
pub not_spelled : (form : Form) (text name : List ℕ) → IsUtf8 name → text ≡ name_text name → (IsOfForm form name → ⊥)
    → IsSpelled form text → ⊥
not_spelled form text name u e not h =
    not (subst (λ (n : List ℕ). IsOfForm form n) (name_same h.0 name h.1 u (sym h.3 ∙ e)) h.2)
