-- Character by character.
use Rattle.std.proofs.Common.{◌≡◌, ℕ, List, ◌++◌, length, string_bytes, sym, ap, subst, ◌∙◌, append_assoc, arith}
use Rattle.std.specs.Str.{IsUtf8}
use Rattle.std.specs.Prelude.{encode_utf8}
use Rattle.std.proofs.lemmas.Bool.{eqb-false}
use Rattle.std.proofs.lemmas.Str.{IsUtf8-nil}
use Rattle.jv_base.specs.Spelling.{character_text, name_text}
use Rattle.jv_base.proofs.NameLemmas.{name_text-nil, name_text-more, no_name}
use Rattle.jv_base.proofs.reading.name_of.Goals as goal
use Rattle.jv_list.proofs.TextLemmas.{IsUtf8-more}

pub loop-rest-init : goal.loop-rest-init
loop-rest-init c = record {
  unicode = subst IsUtf8 (sym c.new-name.ensures.bytes) IsUtf8-nil;
  read = sym (ap (λ (t : List ℕ). t ++ c.args.text.now) (ap name_text c.new-name.ensures.bytes ∙ name_text-nil));
}

pub returns-in_default-clause-none : goal.returns-in_default-clause-none
returns-in_default-clause-none c =
    let l = c.loop-rest in
    let not_empty = eqb-false (length l.rest.now) 0 (sym c.is_empty.ensures ∙ c.loop-rest-test.true) in
    no_name c.args.text.now (string_bytes l.name) l.rest.now l.invariant.unicode l.invariant.read
    (omega (arith, not_empty)) c.in_default.ensures.none

pub loop-rest-preserved : goal.loop-rest-preserved
loop-rest-preserved c =
    let l = c.loop-rest in
    let name : List ℕ = string_bytes l.name in
    let d : ℕ = c.in-Some.c in
    let after : List ℕ = c.in-Some.after.now in
    let found = c.in-Some.ensures.found in
    let pushed : string_bytes c.push.new.self ≡ name ++ encode_utf8 d = c.in_ok-push.ensures.bytes in
    let longer : name_text name ++ character_text d ≡ name_text (string_bytes c.push.new.self) =
    sym (name_text-more name d l.invariant.unicode found.0) ∙ ap name_text (sym pushed) in
    record {
      unicode = subst IsUtf8 (sym pushed) (IsUtf8-more name d l.invariant.unicode found.0);
      read = l.invariant.read ∙ ap (λ (t : List ℕ). name_text name ++ t) found.1
          ∙ sym (append_assoc (name_text name) (character_text d) after) ∙ ap (λ (t : List ℕ). t ++ after) longer;
    }
