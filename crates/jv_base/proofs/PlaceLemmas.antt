-- Where the characters of a text leave a form.
use Rattle.std.proofs.Common.{◌≡◌, ℕ, List, [], ◌∷◌, ◌++◌, length, Option}
use Rattle.std.proofs.Common.{Some}
use Rattle.std.proofs.Common.{None, refl, sym, ap, ◌∙◌, append_assoc, arith}
use Rattle.std.specs.Char.{IsScalar}
use Rattle.std.specs.Str.{IsUtf8, chars}
use Rattle.std.specs.Prelude.{encode_utf8, encode_utf8_all}
use Rattle.std.proofs.lemmas.List.{append-nil, length-append}
use Rattle.std.proofs.lemmas.Str.{IsUtf8-append, chars-encodes, encodes-chars, encodes-append}
use Rattle.jv_base.specs.declared.form.Form.{Form}
use Rattle.jv_base.specs.declared.form.Progress.{Progress}
use Rattle.jv_base.specs.Forms.{IsTextOf}
use Rattle.jv_base.specs.Front.{Begins, StopsAt}
use Rattle.jv_base.specs.Calls.Progress.{start_of, step, run, run_from}
use Rattle.jv_base.proofs.FormLemmas.{run-append, run-character, run-nil, run-none, leads, can_end}
use Rattle.jv_list.proofs.TextLemmas.{next_scalar, longer_text}

module _ (form : Form) where
  abbrev start : Option Progress
  start = Some (start_of form)

  pub run_start : (p : Progress) → p ≡ start_of form → run (start_of form) [] ≡ Some p
  run_start p e = run-nil (start_of form) ∙ ap (λ (q : Progress). Some q) (sym e)

  -- one more character
  pub run_on : (cs : List ℕ) (c : ℕ) (p q : Progress) → IsScalar c → run (start_of form) (encode_utf8_all cs) ≡ Some p
      → step p c ≡ Some q → run (start_of form) (encode_utf8_all (cs ++ c ∷ [])) ≡ Some q
  run_on cs c p q scalar e k =
      let one = ap (λ (t : List ℕ). encode_utf8_all cs ++ t) (append-nil (encode_utf8 c)) in
      ap (λ (t : List ℕ). run (start_of form) t) (encodes-append cs (c ∷ []) ∙ one)
      ∙ run-character form (encode_utf8_all cs) p c e scalar ∙ k

  begins_text : (text : List ℕ) (p : Progress) → IsUtf8 text → run (start_of form) text ≡ Some p
      → Begins (IsTextOf form) text
  begins_text text p u e =
      let end = can_end form text p e in
      (end.0, (IsUtf8-append text end.0 u end.1, end.2))

  ends_nowhere : (text : List ℕ) → run (start_of form) text ≡ None → Begins (IsTextOf form) text → ⊥
  ends_nowhere text e b =
      let led = leads form (text ++ b.0) b.1.1 in
      let none = run-append start text b.0 ∙ ap (λ (r : Option Progress). run_from r b.0) e ∙ run-none b.0 in
      let other : Some led.0 ≡ None = sym led.1 ∙ none in
      cc

  refused : (cs es : List ℕ) (c : ℕ) (p : Progress) → IsScalar c → run (start_of form) (encode_utf8_all cs) ≡ Some p
      → step p c ≡ None → run (start_of form) (encode_utf8_all (cs ++ c ∷ es)) ≡ None
  refused cs es c p scalar e k =
      let bytes : List ℕ = encode_utf8_all cs in
      let more : List ℕ = encode_utf8_all es in
      ap (λ (t : List ℕ). run (start_of form) t) (encodes-append cs (c ∷ es)
      ∙ sym (append_assoc bytes (encode_utf8 c) more))
      ∙ run-append start (bytes ++ encode_utf8 c) more
      ∙ ap (λ (r : Option Progress). run_from r more) (run-character form bytes p c e scalar ∙ k) ∙ run-none more

  pub leaves_before : (text cs more : List ℕ) (c : ℕ) (p : Progress) → IsUtf8 text → chars text ≡ cs ++ c ∷ more
      → run (start_of form) (encode_utf8_all cs) ≡ Some p → step p c ≡ None → StopsAt (IsTextOf form) text (length cs)
  leaves_before text cs more c p u split e k =
      let scalar = next_scalar text cs more c u split in
      let whole : text ≡ encode_utf8_all (cs ++ c ∷ more) = sym (encodes-chars text u) ∙ ap encode_utf8_all split in
      record {
        front = encode_utf8_all cs;
        after = encode_utf8_all (c ∷ more);
        parts = whole ∙ encodes-append cs (c ∷ more);
        unicode = (cs, (scalar.0, refl));
        begins = begins_text (encode_utf8_all cs) p (cs, (scalar.0, refl)) e;
        longest = λ longer rest l at lt b.
            let ds : List ℕ = l.0 in
            let spelled : encode_utf8_all ds ≡ longer = l.1.1 in
            let split_at = sym whole ∙ at ∙ ap (λ (t : List ℕ). t ++ rest) (sym spelled) in
            let past = longer_text cs ds more rest c split_at (omega (arith, lt, ap length spelled)) in
            let is : longer ≡ encode_utf8_all (cs ++ c ∷ past.0) = sym spelled ∙ ap encode_utf8_all past.1 in
            let gone = ap (λ (t : List ℕ). run (start_of form) t) is ∙ refused cs past.0 c p scalar.1 e k in
            ends_nowhere longer gone b;
        characters = ap length (sym (chars-encodes cs scalar.0));
      }

  pub leaves_at_end : (text : List ℕ) (p : Progress) → IsUtf8 text → run (start_of form) text ≡ Some p
      → StopsAt (IsTextOf form) text (length (chars text))
  leaves_at_end text p u e = record {
    front = text;
    after = [];
    parts = sym (append-nil text);
    unicode = u;
    begins = begins_text text p u e;
    longest = λ longer rest l at lt b. absurd (omega (arith, lt, ap length at, length-append longer rest));
    characters = refl;
  }
