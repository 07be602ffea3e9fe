-- A character is plain, or an escape of one that is not.
use Rattle.std.proofs.Common.{◌≡◌, ℕ, ◌∷◌, true, false, sym, ap, ◌∙◌}
use Rattle.jv_base.specs.Spelling.{is_plain}
use Rattle.jv_base.proofs.EscapeLemmas.{no_character_empty, no_character_escape, no_character_plain, plain_text}
use Rattle.jv_base.proofs.EscapeLemmas.{escaped_text, plain_scalar, character_shorter}
use Rattle.jv_base.proofs.reading.character_of.Goals as goal
use Rattle.jv_list.proofs.TestLemmas.{if_none}

pub returns-in_err-first-clause-none : goal.returns-in_err-first-clause-none
returns-in_err-first-clause-none c =
    if_none c.from_residual.result _ (no_character_empty c.args.text.now c.in_err-first.ensures.cases)

pub returns-then-is_plain-clause-found : goal.returns-then-is_plain-clause-found
returns-then-is_plain-clause-found c =
    let first = c.in_ok-first in
    let d : ℕ = c.from-plain.result in
    let plain : is_plain d ≡ true = sym c.is_plain.ensures ∙ c.if-is_plain.true in (
      plain_scalar d plain,
      first.ensures.cases.0 ∙ ap (λ (b : ℕ). b ∷ first.rest.now) (sym c.from-plain.ensures)
          ∙ sym (plain_text d first.rest.now plain),
    )

pub returns-in_err-c-clause-none : goal.returns-in_err-c-clause-none
returns-in_err-c-clause-none c =
    let first = c.in_ok-first in
    let other : is_plain first.first.now ≡ false =
    ap is_plain (sym c.from-plain.ensures) ∙ sym c.is_plain.ensures ∙ c.if-is_plain.false in
    if_none c.from_residual-in_err-c.result _
    (no_character_escape c.args.text.now first.rest.now first.first.now first.ensures.cases.0 other
    c.in_err-c.ensures.none)

pub returns-then-is_plain-2-clause-none : goal.returns-then-is_plain-2-clause-none
returns-then-is_plain-2-clause-none c =
    let first = c.in_ok-first in
    let found = c.in_ok-c.ensures.found in
    let other : is_plain first.first.now ≡ false =
    ap is_plain (sym c.from-plain.ensures) ∙ sym c.is_plain.ensures ∙ c.if-is_plain.false in
    let plain : is_plain c.in_ok-c.c ≡ true = sym c.is_plain-2.ensures ∙ c.if-is_plain-2.true in
    no_character_plain c.args.text.now first.rest.now first.first.now first.ensures.cases.0 other
    c.in_ok-c.rest.now c.in_ok-c.c found.0 found.1 plain

pub returns-clause-found : goal.returns-clause-found
returns-clause-found c =
    let found = c.in_ok-c.ensures.found in
    let other : is_plain c.in_ok-c.c ≡ false = sym c.is_plain-2.ensures ∙ c.if-is_plain-2.false in
    (found.0, found.1 ∙ sym (escaped_text c.in_ok-c.c c.in_ok-c.rest.now other))

pub returns-clause-shorter : goal.returns-clause-shorter
returns-clause-shorter c =
    let found = c.in_ok-c.ensures.found in
    let other : is_plain c.in_ok-c.c ≡ false = sym c.is_plain-2.ensures ∙ c.if-is_plain-2.false in
    character_shorter c.args.text.now c.in_ok-c.rest.now c.in_ok-c.c
    (found.1 ∙ sym (escaped_text c.in_ok-c.c c.in_ok-c.rest.now other))
