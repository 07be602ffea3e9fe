use Rattle.std.proofs.Common.{◌∙◌, ap, sym, arith, eqb, length}
use Rattle.std.specs.Bool.{then_some}
use Rattle.std.specs.Prelude.{slice_get}
use Rattle.cl_words.proofs.NumberLemmas.{plus_is_none, zero_found, zero_only, empty_is_none, first_is, number_found}
use Rattle.cl_words.proofs.NumberLemmas.{number_only}
use Rattle.cl_words.proofs.option.number_in.Goals as goal

pub returns-in_err-first-clause-only : goal.returns-in_err-first-clause-only
returns-in_err-first-clause-only c = λ number small is.
    let empty = c.in_err-first.ensures.value ∙ ap (λ t. slice_get t 0) c.as_bytes-bytes.ensures.value in
    absurd (empty_is_none _ number (omega arith) empty is)

pub returns-then-first-eq43-clause-only : goal.returns-then-first-eq43-clause-only
returns-then-first-eq43-clause-only c = λ number small is.
    let first = first_is _ _ (c.in_ok-first.ensures.value ∙ ap (λ t. slice_get t 0) c.as_bytes-bytes.ensures.value) in
    absurd (plus_is_none _ number (omega arith) (first ∙ c.if-first-eq43.true) is)

pub returns-then-first-eq48-clause-found : goal.returns-then-first-eq48-clause-found
returns-then-first-eq48-clause-found c =
    let bytes = c.as_bytes-bytes.ensures.value in
    let first = first_is _ _ (c.in_ok-first.ensures.value ∙ ap (λ t. slice_get t 0) bytes) in
    zero_found _ _ (first ∙ c.if-first-eq48.true) (c.then_some.ensures ∙ ap (λ t. then_some (eqb (length t) 1) 0) bytes)

pub returns-then-first-eq48-clause-only : goal.returns-then-first-eq48-clause-only
returns-then-first-eq48-clause-only c = λ number small is.
    let bytes = c.as_bytes-bytes.ensures.value in
    let first = first_is _ _ (c.in_ok-first.ensures.value ∙ ap (λ t. slice_get t 0) bytes) in
    zero_only _ _ (first ∙ c.if-first-eq48.true) (c.then_some.ensures ∙ ap (λ t. then_some (eqb (length t) 1) 0) bytes)
    number (omega arith) is

pub returns-clause-only : goal.returns-clause-only
returns-clause-only c = λ number small is.
    number_only _ c.parse.result c.parse.ensures.value.0 _ c.ok.ensures.value number small is

pub returns-clause-found : goal.returns-clause-found
returns-clause-found c =
    let first = first_is _ _ (c.in_ok-first.ensures.value ∙ ap (λ t. slice_get t 0) c.as_bytes-bytes.ensures.value) in
    number_found _ c.parse.result c.parse.ensures.value.0 _ c.ok.ensures.value
    (λ plus. c.if-first-eq43.false (sym first ∙ plus))
    (λ zero. c.if-first-eq48.false (sym first ∙ zero))
